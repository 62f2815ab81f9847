-- A laid map is that of the state in the machine, and as many bytes lead on as the state has children.
use Rattle.std.specs.Prelude.{◌*◌, ◌<◌, suc, zero, ℕ, Bool, cond, false, true, List, ◌⊎◌, ◌≡◌, refl, length}
use Rattle.std.proofs.Common.{inl, inr, ◌∙◌, ap, sym, arith}
use Rattle.matching.specs.Laws.Bools.{decided}
use Rattle.matching.specs.Words.{Lawful, Word}
use Rattle.bitmap.specs.Laws.Children.{forward-goes, goes}
use Rattle.bitmap.specs.Laws.Levels.{children_hit, children_miss}
use Rattle.bitmap.specs.Laws.Maps.{tally_from}
use Rattle.bitmap.specs.Levels.{by_level, children_from, forward}
use Rattle.bitmap.specs.Slots.{map_word}
use Rattle.bitmap.specs.Steps.{number_at}
use Rattle.bitmap_maps.specs.Laid.{MapLaid}
use Rattle.bitmap_maps.specs.Laws.Bits.{bits-same}

-- as `Settled` has it
pub laid-map : (ts : List Word) → Lawful ts → (p : Word) (q : ℕ) (before after : List ℕ) → MapLaid ts p q before after
    → (j : ℕ) → j < 16 → number_at after q j ≡ map_word (by_level ts) p j
laid-map ts l p q before after laid j h =
    laid.map j h ∙ bits-same (goes ts p) (forward (by_level ts) p) 16 (j * 16) (λ x a b. sym (forward-goes ts l.short l.bytes p x))

-- as many bytes lead on as there are children
pub tally_children : (ts : List Word) (p : Word) (n c : ℕ) → tally_from (goes ts p) c n ≡ length (children_from ts p c n)
unfolding tally_from children_from
tally_children ts p zero c = refl
tally_children ts p (suc n) c = go (decided (goes ts p c)) (tally_children ts p n (suc c))
  where
    go : (goes ts p c ≡ true) ⊎ (goes ts p c ≡ false) → tally_from (goes ts p) (suc c) n ≡ length (children_from ts p (suc c) n)
        → tally_from (goes ts p) c (suc n) ≡ length (children_from ts p c (suc n))
    go (inl e) ih =
        omega (arith, ih, ap {B = ℕ} (λ (b : Bool). cond b 1 0) e, ap (λ (l : List Word). length l) (children_hit ts p c n e))
    go (inr e) ih =
        omega (arith, ih, ap {B = ℕ} (λ (b : Bool). cond b 1 0) e, ap (λ (l : List Word). length l) (children_miss ts p c n e))
