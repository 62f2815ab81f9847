-- A good set in hand.
use Prim.Native.Nat.{◌≤◌, ℕ}
use mathlib.Core.List.{List, ◌++◌, map}
use mathlib.Core.Path.{◌∙◌, ◌≡◌, ap, subst, sym}
use native.Mathlib.Omega.{arith}
use lib.ListN.{length, length-replicate, replicate, take}
use lib.Seq.{length-take-le}
use Rattle.matching.specs.Kinds.{TagKind, lower}
use Rattle.kinds.specs.Laws.Folding.{folded_front}
use Rattle.kinds.specs.Rows.{kinds_taken}
use Rattle.kinds.specs.declared.Takes.{Takes}
use Rattle.kinds.specs.declared.Takes.TheVariants.{BothKinds, ExactAlone}
use Rattle.matching.specs.Laws.Layouts.{split-kinds, takes_short, whole_kinds}
use Rattle.matching.specs.Parts.{kinds_for, split_layout, whole_layout}
use Rattle.matching.specs.Tags.{LawfulTags}
use Rattle.matching.specs.Words.{Below}
use Rattle.tagset.specs.Grammar.{SetOf, set_of}
use Rattle.tagset.specs.Laws.Lent.{GoodRead}
use Rattle.tagset.specs.Laws.Places.{ShortKinds}
use Rattle.tagset.specs.declared.Places.{Places}
use Rattle.choosing.specs.Choosing.{lying_in}
use Rattle.tables.specs.Shape.{Folded, Held}

-- ---- the set folded

pub set_folded : (set out rest : List ℕ) → length out ≡ length {A = ℕ} (replicate 576 0) → out ≡ map lower set ++ rest → Folded set out
set_folded set out rest long e = record {
  long = long ∙ length-replicate {A = ℕ} 576 0;
  front = folded_front set out rest e;
}

-- ---- a set that was read

short_taken : (takes : Takes) → ShortKinds (kinds_taken takes)
short_taken ExactAlone = subst ShortKinds whole_kinds (takes_short whole_layout)
short_taken BothKinds = subst ShortKinds split-kinds (takes_short split_layout)

module _ (takes : Takes) {bytes : List ℕ} {p : Places} (g : GoodRead (kinds_taken takes) bytes p) where
  pub good-small : length bytes ≤ 576
  good-small = g.known.short (short_taken takes)

  pub good-held : Below 256 bytes → (out : List ℕ) → Folded bytes out → Held bytes (take (length bytes) out) p (lying_in bytes p)
  good-held below out f = record {
    small = good-small;
    folds = f.front;
    fit = record {
      few = omega (arith, g.lent.many, g.known.few);
      fits_from = g.lent.fits_from;
      fits_to = g.lent.fits_to;
      fits_kinds = g.lent.fits_kinds;
    };
    lawful = subst LawfulTags (sym g.lent.lies) (g.known.lawful (short_taken takes) below);
  }

-- the kinds that are taken are the layout's
pub split-taken : (set : List ℕ) {s : SetOf} → set_of (kinds_taken BothKinds) set ≡ s → set_of (kinds_for split_layout) set ≡ s
split-taken set e = ap (λ (ks : List TagKind). set_of ks set) split-kinds ∙ e

pub whole_taken : (set : List ℕ) {s : SetOf} → set_of (kinds_taken ExactAlone) set ≡ s → set_of (kinds_for whole_layout) set ≡ s
whole_taken set e = ap (λ (ks : List TagKind). set_of ks set) whole_kinds ∙ e

-- ---- the folded set, lent
-- Laws that the pages name, though no proof needs them any more.

-- it is lent as far as the set goes
pub folded_lent : {set out : List ℕ} → Folded set out → length set ≤ 576 → length set ≡ length (take (length set) out)
folded_lent {set} {out} f h = sym (length-take-le (length set) out (omega (arith, f.long)))
