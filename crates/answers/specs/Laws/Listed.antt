-- Numbers are put one after another.
use Rattle.std.specs.Prelude.{ℕ, ◌+◌, ◌<◌, ◌≤◌, List, [], ◌∷◌, ◌++◌, ◌≡◌, refl, length, get_or, take}
use Rattle.std.proofs.Common.{add-one, take-suc, take_all}
use Rattle.output.specs.Buffer.{Puts}
use Rattle.output.specs.declared.Buffer.{Buffer}
use Rattle.output.specs.Laws.Waiting.{put_then}
use Rattle.answers.specs.Answers.{numbered, listed}

listed-one : (text ns : List ℕ) (n : ℕ) → listed text (ns ++ (n ∷ [])) ≡ listed text ns ++ numbered (32 ∷ []) n
unfolding listed
listed-one text [] n = refl
listed-one text (m ∷ ns) n = listed-one (text ++ numbered (32 ∷ []) m) ns n

-- the first numbers of a list, and one more
pub listed_next : {b c d : Buffer} (ns : List ℕ) (i : ℕ) → i < length ns → Puts b (listed [] (take i ns)) c → Puts c (numbered (32 ∷ []) (get_or ns i 0)) d
    → Puts b (listed [] (take (i + 1) ns)) d
listed_next ns i h p q = rw (add-one i, take-suc ns i 0 h, listed-one [] (take i ns) (get_or ns i 0)) (put_then p q)

pub listed-all : {b c : Buffer} (ns : List ℕ) (i : ℕ) → length ns ≤ i → Puts b (listed [] (take i ns)) c → Puts b (listed [] ns) c
listed-all ns i h p = rw (take_all i ns h) at p
