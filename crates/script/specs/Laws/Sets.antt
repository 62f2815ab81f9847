-- Laws of sets: quotations, entries, and the bytes that are put for them.
use Rattle.std.specs.Prelude.{ℕ, zero, suc, ◌+◌, ◌-◌, ◌≤◌, ◌<◌, ◌/◌, ◌%◌, ◌≡◌, refl, Bool, true, false, ◌&&◌, ◌||◌, cond, List, [], ◌∷◌, ◌++◌, eqb, leb, ltb, length, get_or, take, drop, Option, Some, None}
use Rattle.std.proofs.Common.{arith, sym, ap, ap₂, ◌∙◌, true≢false, append_assoc, length-append, length-drop, drop_of_length-le, drop-cons, length-take-le, eq-eqb, ne_eqb, le-leb, lt-ltb, le-ltb, ltb-true, leb-false}
use Rattle.std.proofs.Math.Bool.{and-false}
use Rattle.std.proofs.lemmas.List.Edits.{length-paste, take-paste}
use Rattle.std.proofs.Math.Seq.{paste, take-length}
use Rattle.std.proofs.lemmas.Bool.{lt-leb}
use Rattle.script.specs.Words.{reach}
use Rattle.script.specs.Bytes.{bytes_of}
use Rattle.script.specs.Sets.{entry_of, quoted_at, followed, in_front, payload_at, on_quoted, entries_of, within, set_of, is_marked, unmarked, kind_at}
use Rattle.script.specs.declared.sets.Quoted.{Quoted}
use Rattle.script.specs.declared.sets.Quoted.TheVariants.{Last, Followed}

-- ---- the quotation at the front

pub quote_none : (w : List ℕ) → length w ≡ 0 → quoted_at w ≡ None
unfolding quoted_at
quote_none [] e = refl
quote_none (b ∷ w) e = absurd (omega arith)

pub quote_other : (w : List ℕ) → (get_or w 0 0 ≡ 34 → ⊥) → quoted_at w ≡ None
unfolding quoted_at
quote_other [] h = refl
quote_other (b ∷ w) h = rw (ne_eqb b 34 h)

pub quote_open : (w : List ℕ) (r : ℕ) → get_or w 0 0 ≡ 34 → r ≡ reach 34 (drop 1 w) → length w < r + 2 → quoted_at w ≡ None
unfolding quoted_at
quote_open [] r e f h = refl
quote_open (b ∷ w) r e f h = let g : length w ≤ reach 34 w = omega arith in rw (le-ltb _ _ g, and-false)

-- a closed quotation is judged by what follows it
quote_closed : (b : ℕ) (w : List ℕ) (r : ℕ) → b ≡ 34 → r ≡ reach 34 w → r < length w → quoted_at (b ∷ w) ≡ followed r (drop (r + 1) w)
unfolding quoted_at
quote_closed b w r e f h =
    let g : reach 34 w < length w = omega arith in rw (eq-eqb b 34 e, lt-ltb _ _ g) (ap (λ (n : ℕ). followed n (drop (n + 1) w)) (sym f))

pub quote_last : (w : List ℕ) (r : ℕ) → get_or w 0 0 ≡ 34 → r ≡ reach 34 (drop 1 w) → length w ≡ r + 2 → quoted_at w ≡ Some (Last r)
quote_last [] r e f h = absurd (omega arith)
quote_last (b ∷ w) r e f h =
    let g : r < length w = omega arith in
    let m : length w ≤ r + 1 = omega arith in
    quote_closed b w r e f g ∙ ap (followed r) (drop_of_length-le w m)

-- what stands behind the closing mark
quote_next : (b : ℕ) (w : List ℕ) (r : ℕ) → r + 2 < length (b ∷ w) → drop (r + 1) w ≡ get_or (b ∷ w) (r + 2) 0 ∷ drop (suc (r + 1)) w
quote_next b w r h =
    let g : r + 1 < length w = omega arith in
    let e : r + 2 ≡ suc (r + 1) = omega arith in
    rw e (drop-cons w (r + 1) 0 g)

pub quote_joined : (w : List ℕ) (r : ℕ) → get_or w 0 0 ≡ 34 → r ≡ reach 34 (drop 1 w) → r + 2 < length w → (get_or w (r + 2) 0 ≡ 32 → ⊥) → quoted_at w ≡ None
quote_joined [] r e f h n = absurd (omega arith)
quote_joined (b ∷ w) r e f h n =
    let g : r < length w = omega arith in
    quote_closed b w r e f g ∙ ap (followed r) (quote_next b w r h) ∙ rw (ne_eqb (get_or (b ∷ w) (r + 2) 0) 32 n) refl

pub quote_followed : (w : List ℕ) (r : ℕ) → get_or w 0 0 ≡ 34 → r ≡ reach 34 (drop 1 w) → r + 2 < length w → get_or w (r + 2) 0 ≡ 32 → quoted_at w ≡ Some (Followed r)
quote_followed [] r e f h n = absurd (omega arith)
quote_followed (b ∷ w) r e f h n =
    let g : r < length w = omega arith in
    quote_closed b w r e f g ∙ ap (followed r) (quote_next b w r h) ∙ rw (eq-eqb (get_or (b ∷ w) (r + 2) 0) 32 n) refl

-- ---- an entry in the buffer

pub length_entry : (kind : ℕ) (p : List ℕ) → length (entry_of kind p) ≡ 4 + length p
unfolding entry_of
length_entry kind p = omega arith

pub entry_put : (kind : ℕ) (b b₁ b₂ p : List ℕ) (n : ℕ) → n + 4 + length p ≤ length b
    → b₁ ≡ paste b n (length p % 256 ∷ length p / 256 ∷ kind ∷ 0 ∷ []) 4 → b₂ ≡ paste b₁ (n + 4) p (length p)
    → take (n + 4 + length p) b₂ ≡ take n b ++ entry_of kind p
unfolding entry_of
entry_put kind b b₁ b₂ p n h e f =
    ap (take (n + 4 + length p)) f
    ∙ take-paste b₁ (n + 4) p (length p) fits (omega arith)
    ∙ ap (λ (l : List ℕ). l ++ take (length p) p) (ap (take (n + 4)) e ∙ take-paste b n head 4 (omega arith) (omega arith))
    ∙ ap (λ (l : List ℕ). take n b ++ head ++ l) (take-length p)
    ∙ append_assoc (take n b) head p
  where
    head : List ℕ
    head = length p % 256 ∷ length p / 256 ∷ kind ∷ 0 ∷ []

    long : length b₁ ≡ length b
    long = ap length e ∙ length-paste b n head 4 (omega arith) (omega arith)

    fits : n + 4 ≤ length b₁
    fits = omega (arith, long)

-- ---- at most 4,096 bytes

pub within-these : (most : ℕ) (l : List ℕ) → length l ≤ most → within most (Some l) ≡ Some l
within-these most l h = rw (le-leb _ _ h) refl

pub within-long : (most : ℕ) (l : List ℕ) → most < length l → within most (Some l) ≡ None
within-long most l h = rw (lt-leb _ _ h) refl

-- more behind too many bytes is too many still
pub within-front : (most : ℕ) (l : List ℕ) (x : Option (List ℕ)) → most < length l → within most (in_front l x) ≡ None
within-front most l (Some m) h = within-long most (l ++ m) (simp length-append (omega arith))
within-front most l None h = refl

pub front-none : (x : Option (List ℕ)) → in_front [] x ≡ x
front-none (Some m) = refl
front-none None = refl

pub front-front : (l m : List ℕ) (x : Option (List ℕ)) → in_front l (in_front m x) ≡ in_front (l ++ m) x
front-front l m (Some n) = ap Some (sym (append_assoc l m n))
front-front l m None = refl

entries_step : (most : ℕ) (w : List ℕ) → 0 < most → entries_of most w ≡ on_quoted (quoted_at (unmarked w)) (kind_at w) (unmarked w) (entries_of (most - 1))
unfolding entries_of
entries_step zero w h = absurd (omega arith)
entries_step (suc most) w h = rw (let e : suc most - 1 ≡ most = omega arith in e)

pub entries_end : (most : ℕ) (w : List ℕ) → most ≤ 0 → entries_of most w ≡ None
unfolding entries_of
entries_end zero w h = refl
entries_end (suc most) w h = absurd (omega arith)

-- an entry is put where the set stays short enough
pub entry_long : (kind : ℕ) (b p : List ℕ) (n : ℕ) → n ≤ length b → 4096 < n + 4 + length p → None ≡ within 4096 (Some (take n b ++ entry_of kind p))
entry_long kind b p n h g = sym (within-long 4096 (take n b ++ entry_of kind p) long)
  where
    long : 4096 < length (take n b ++ entry_of kind p)
    long = rw (length-append, length_entry, length-take-le n b h) (omega arith)

pub entry_fits : (kind : ℕ) (b b₁ b₂ p : List ℕ) (n : ℕ) → 4096 ≤ length b → n + 4 + length p ≤ 4096
    → b₁ ≡ paste b n (length p % 256 ∷ length p / 256 ∷ kind ∷ 0 ∷ []) 4 → b₂ ≡ paste b₁ (n + 4) p (length p)
    → Some (take (n + 4 + length p) b₂) ≡ within 4096 (Some (take n b ++ entry_of kind p))
entry_fits kind b b₁ b₂ p n h g e f =
    let room : n + 4 + length p ≤ length b = omega arith in
    let first : n ≤ length b = omega arith in
    let short : length (take n b ++ entry_of kind p) ≤ 4096 = rw (length-append, length_entry, length-take-le n b first) (omega arith) in
    ap Some (entry_put kind b b₁ b₂ p n room e f) ∙ sym (within-these 4096 (take n b ++ entry_of kind p) short)

-- ---- a whole set

pub set-none : (w : List ℕ) → length w ≡ 0 → set_of w ≡ None
unfolding set_of bytes_of
set-none [] e = refl
set-none (b ∷ w) e = absurd (omega arith)

pub set_quoted : (w : List ℕ) (t : Bool) → t ≡ eqb (get_or w 0 0) 34 || is_marked w → t ≡ true → set_of w ≡ within 4096 (entries_of (length w) w)
unfolding set_of
set_quoted w t e q = ap (λ (b : Bool). within 4096 (cond b (entries_of (length w) w) (bytes_of w))) (sym e ∙ q)

pub set_plain : (w : List ℕ) (t : Bool) → t ≡ eqb (get_or w 0 0) 34 || is_marked w → t ≡ false → set_of w ≡ within 4096 (bytes_of w)
unfolding set_of
set_plain w t e q = ap (λ (b : Bool). within 4096 (cond b (entries_of (length w) w) (bytes_of w))) (sym e ∙ q)

pub ruleset no_set = (set-none)

-- bytes as they are written: too many, or few enough
pub set-many : (w b : List ℕ) (n : ℕ) → set_of w ≡ within 4096 (bytes_of w) → bytes_of w ≡ Some (take n b) → n ≤ length b → 4096 < n → set_of w ≡ None
set-many w b n q e m h = q ∙ ap (within 4096) e ∙ within-long 4096 (take n b) (rw (length-take-le n b m) h)

pub set-few : (w b : List ℕ) (n : ℕ) → set_of w ≡ within 4096 (bytes_of w) → bytes_of w ≡ Some (take n b) → n ≤ length b → n ≤ 4096 → set_of w ≡ Some (take n b)
set-few w b n q e m h = q ∙ ap (within 4096) e ∙ within-these 4096 (take n b) (rw (length-take-le n b m) h)

-- ---- the words are read quotation by quotation

-- what was put so far, and the words that are left
pub record Entered (w b rest : List ℕ) (left n : ℕ) : Type 0 where
  pub short : n ≤ 4096
  pub long : 4096 ≤ length b
  pub inside : length rest ≤ length w
  pub means : entries_of (length w) w ≡ in_front (take n b) (entries_of left rest)

pub entered_none : (w b : List ℕ) → 4096 ≤ length b → Entered w b w (length w) 0
entered_none w b h = record { short = omega arith; long = h; inside = omega arith; means = sym (front-none (entries_of (length w) w)) }

-- the next word: a quotation behind its mark, of the kind that the mark asks for
pub record Next (rest bare : List ℕ) (kind : ℕ) (q : Option Quoted) : Type 0 where
  pub words : bare ≡ unmarked rest
  pub kinds : kind ≡ kind_at rest
  pub quoted : quoted_at bare ≡ q

next-is : (left : ℕ) {rest bare : List ℕ} {kind : ℕ} {q : Option Quoted} → Next rest bare kind q → 0 < left
    → entries_of left rest ≡ on_quoted q kind bare (entries_of (left - 1))
next-is left {rest} {bare} {kind} x h =
    entries_step left rest h
    ∙ ap₂ (λ (k : ℕ) (l : List ℕ). on_quoted (quoted_at l) k l (entries_of (left - 1))) (sym x.kinds) (sym x.words)
    ∙ ap (λ (y : Option Quoted). on_quoted y kind bare (entries_of (left - 1))) x.quoted

pub marked-none : (w : List ℕ) → length w ≡ 0 → is_marked w ≡ false
marked-none [] e = refl
marked-none (b ∷ w) e = absurd (omega arith)

pub quotation_none : (w : List ℕ) → length w ≡ 0 → (eqb (get_or w 0 0) 34 || is_marked w) ≡ false
quotation_none [] e = refl
quotation_none (b ∷ w) e = absurd (omega arith)

pub unmarked-length : (w : List ℕ) → length (unmarked w) ≤ length w
unfolding unmarked
unmarked-length w = go (is_marked w)
  where
    go : (t : Bool) → length (cond t (drop 1 w) w) ≤ length w
    go true = omega (arith, length-drop 1 w)
    go false = omega arith

-- by whether there is a mark, as it was found
pub unmarked-by : (w : List ℕ) (t : Bool) → t ≡ is_marked w → unmarked w ≡ cond t (drop 1 w) w
unfolding unmarked
unmarked-by w t e = ap (λ (b : Bool). cond b (drop 1 w) w) (sym e)

pub kind-by : (w : List ℕ) (t : Bool) → t ≡ is_marked w → kind_at w ≡ cond t 2 1
unfolding kind_at
kind-by w t e = ap (λ (b : Bool). cond b 2 1) (sym e)

pub marked-some : (w : List ℕ) → is_marked w ≡ true → 0 < length w
marked-some [] e = absurd (let z : ◌≡◌ {A = Bool} false true = e in true≢false (sym z))
marked-some (b ∷ w) e = omega arith

pub entered_fails : {w b rest bare : List ℕ} {left n kind : ℕ} → Entered w b rest left n → 0 < left → Next rest bare kind None
    → None ≡ within 4096 (entries_of (length w) w)
entered_fails {w} {b} {rest} {bare} {left} {n} v h x = sym (ap (within 4096) (v.means ∙ ap (in_front (take n b)) (next-is left x h)))

pub entered_out : {w b rest : List ℕ} {left n : ℕ} → Entered w b rest left n → left ≤ 0 → None ≡ within 4096 (entries_of (length w) w)
entered_out {w} {b} {rest} {left} {n} v h =
    sym (ap (within 4096) (v.means ∙ ap (in_front (take n b)) (entries_end left rest h)))

-- the payload as it is lent
pub payload_lent : (rest : List ℕ) (k : ℕ) → take (k + 1 - 1) (drop 1 rest) ≡ payload_at k rest
payload_lent rest k = ap (λ (n : ℕ). take n (drop 1 rest)) (let e : k + 1 - 1 ≡ k = omega arith in e)

-- the last entry is put
pub entered_last : {w b rest bare : List ℕ} {left n kind : ℕ} (k : ℕ) (x : Option (List ℕ)) → Entered w b rest left n → 0 < left → Next rest bare kind (Some (Last k))
    → x ≡ within 4096 (Some (take n b ++ entry_of kind (payload_at k bare))) → x ≡ within 4096 (entries_of (length w) w)
entered_last {w} {b} {rest} {bare} {left} {n} k x v h y f = f ∙ sym (ap (within 4096) (v.means ∙ ap (in_front (take n b)) (next-is left y h)))

-- all but what is behind an entry that is followed
entered_next : {w b rest bare : List ℕ} {left n kind : ℕ} (k : ℕ) → Entered w b rest left n → 0 < left → Next rest bare kind (Some (Followed k))
    → entries_of (length w) w ≡ in_front (take n b ++ entry_of kind (payload_at k bare)) (entries_of (left - 1) (drop (k + 3) bare))
entered_next {w} {b} {rest} {bare} {left} {n} {kind} k v h x =
    v.means
    ∙ ap (in_front (take n b)) (next-is left x h)
    ∙ front-front (take n b) (entry_of kind (payload_at k bare)) (entries_of (left - 1) (drop (k + 3) bare))

-- ---- a quotation fits in its words

not_last : {k : ℕ} → None ≡ Some (Last k) → ⊥
not_last e = let z : ◌≡◌ {A = ℕ} 0 1 = cc in omega arith

not-followed : {k : ℕ} → None ≡ Some (Followed k) → ⊥
not-followed e = let z : ◌≡◌ {A = ℕ} 0 1 = cc in omega arith

followed_last : {r k : ℕ} → Some (Followed r) ≡ Some (Last k) → ⊥
followed_last e = let z : ◌≡◌ {A = ℕ} 0 1 = cc in omega arith

last_followed : {r k : ℕ} → Some (Last r) ≡ Some (Followed k) → ⊥
last_followed e = let z : ◌≡◌ {A = ℕ} 0 1 = cc in omega arith

-- the last quotation: its bytes and both marks
pub last_fits : (w : List ℕ) (k : ℕ) → quoted_at w ≡ Some (Last k) → k + 2 ≤ length w
unfolding quoted_at
last_fits [] k e = absurd (not_last e)
last_fits (b ∷ w) k e = go (eqb b 34) (ltb (reach 34 w) (length w)) refl e
  where
    by : (d : List ℕ) → followed (reach 34 w) d ≡ Some (Last k) → reach 34 w ≡ k
    by [] f = cc
    by (x ∷ d) f = other (eqb x 32) f
      where
        other : (t : Bool) → cond t (Some (Followed (reach 34 w))) None ≡ Some (Last k) → reach 34 w ≡ k
        other true g = absurd (followed_last g)
        other false g = absurd (not_last g)

    go : (s t : Bool) → ltb (reach 34 w) (length w) ≡ t → cond (s && t) (followed (reach 34 w) (drop (reach 34 w + 1) w)) None ≡ Some (Last k)
        → k + 2 ≤ suc (length w)
    go true true g f = omega (arith, by (drop (reach 34 w + 1) w) f, ltb-true (reach 34 w) (length w) g)
    go true false g f = absurd (not_last f)
    go false t g f = absurd (not_last f)

-- one that is followed: and the blank
pub followed-fits : (w : List ℕ) (k : ℕ) → quoted_at w ≡ Some (Followed k) → k + 3 ≤ length w
unfolding quoted_at
followed-fits [] k e = absurd (not-followed e)
followed-fits (b ∷ w) k e = go (eqb b 34 && ltb (reach 34 w) (length w)) e
  where
    by : (d : List ℕ) → followed (reach 34 w) d ≡ Some (Followed k) → (reach 34 w ≡ k) × (0 < length d)
    by [] f = absurd (last_followed f)
    by (x ∷ d) f = (other (eqb x 32) f, omega arith)
      where
        other : (t : Bool) → cond t (Some (Followed (reach 34 w))) None ≡ Some (Followed k) → reach 34 w ≡ k
        other true g = cc
        other false g = absurd (not-followed g)

    go : (t : Bool) → cond t (followed (reach 34 w) (drop (reach 34 w + 1) w)) None ≡ Some (Followed k) → k + 3 ≤ suc (length w)
    go true f = let p = by (drop (reach 34 w + 1) w) f in omega (arith, p.0, p.1, length-drop (reach 34 w + 1) w)
    go false f = absurd (not-followed f)

-- ---- an entry that is followed

within_none : (most : ℕ) (l : List ℕ) → None ≡ within most (Some l) → most < length l
within_none most l e = go (leb (length l) most) refl e
  where
    go : (t : Bool) → leb (length l) most ≡ t → None ≡ cond t (Some l) None → most < length l
    go true f g = let z : ◌≡◌ {A = ℕ} 0 1 = cc in absurd (omega arith)
    go false f g = leb-false (length l) most f

within-some : (most : ℕ) (l m : List ℕ) → Some m ≡ within most (Some l) → m ≡ l
within-some most l m e = go (leb (length l) most) e
  where
    go : (t : Bool) → Some m ≡ cond t (Some l) None → m ≡ l
    go true g = cc
    go false g = let z : ◌≡◌ {A = ℕ} 0 1 = cc in absurd (omega arith)

pub entered_full : {w b rest bare : List ℕ} {left n kind : ℕ} (k : ℕ) → Entered w b rest left n → 0 < left → Next rest bare kind (Some (Followed k))
    → None ≡ within 4096 (Some (take n b ++ entry_of kind (payload_at k bare))) → None ≡ within 4096 (entries_of (length w) w)
entered_full {w} {b} {rest} {bare} {left} {n} {kind} k v h e f =
    let put : List ℕ = take n b ++ entry_of kind (payload_at k bare) in
    sym (ap (within 4096) (entered_next k v h e) ∙ within-front 4096 put (entries_of (left - 1) (drop (k + 3) bare)) (within_none 4096 put f))

pub entered_more : {w b rest bare : List ℕ} {left n kind : ℕ} (k m : ℕ) (d next : List ℕ) → Entered w b rest left n → 0 < left → Next rest bare kind (Some (Followed k))
    → Some (take m d) ≡ within 4096 (Some (take n b ++ entry_of kind (payload_at k bare))) → m ≤ 4096 → length d ≡ length b → next ≡ drop (k + 3) bare
    → Entered w d next (left - 1) m
entered_more {w} {b} {rest} {bare} {left} {n} {kind} k m d next v h e f s l g =
    let put : List ℕ = take n b ++ entry_of kind (payload_at k bare) in
    record {
      short = s;
      long = omega (arith, v.long, l);
      inside = omega (arith, v.inside, ap length g, length-drop (k + 3) bare, ap length e.words, unmarked-length rest);
      means =
          entered_next k v h e
          ∙ ap (λ (p : List ℕ). in_front p (entries_of (left - 1) (drop (k + 3) bare))) (sym (within-some 4096 put (take m d) f))
          ∙ ap (λ (r : List ℕ). in_front (take m d) (entries_of (left - 1) r)) (sym g);
    }
