-- The first states, then the second over what is behind them.
use Rattle.std.proofs.Common.{ℕ, List, [], ◌∷◌, ◌++◌, ◌≡◌, refl, append-nil, arith, drop, drop_at, drop_of_length-le, length, take, take_at}
use Rattle.blocks.proofs.places.joined.Goals as goal

put_over : (a b z : List ℕ) → length a ≡ 8 → length b ≡ 8 → length z ≡ 8 → take 8 (a ++ z) ++ (b ++ drop 8 (drop 8 (a ++ z))) ≡ a ++ b
put_over a b z la lb lz =
    let none : drop 8 z ≡ [] = drop_of_length-le z {i = 8} (omega (arith, lz)) in
    rw (take_at a z 8 la, drop_at a z 8 la, none, append-nil b)

pub returns : goal.returns
returns c =
    rw (c.copy_from_slice.ensures.after, c.copy_from_slice-2.ensures.after)
    (put_over c.args.first c.args.second (0 ∷ 0 ∷ 0 ∷ 0 ∷ 0 ∷ 0 ∷ 0 ∷ 0 ∷ []) (omega arith) (omega arith) refl)
