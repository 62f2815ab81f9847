-- Laws of calls and of the places of a read.
use Rattle.std.specs.Prelude.{ℕ, suc, ◌+◌, ◌-◌, ◌≤◌, ◌<◌, ◌≡◌, refl, Bool, true, false, cond, List, [], ◌∷◌, ◌++◌, eqb, length, take, set, get_or, Option, Some, None, option_map, find, bytes_eq, ◌&&◌}
use Rattle.std.proofs.Common.{arith, add-one, sym, ap, ap₂, subst, ◌∙◌, append_assoc, append-nil, take-suc-set, eq-eqb, ne_eqb, le-leb, lt-ltb, le-ltb}
use Rattle.std.proofs.Math.Bool.{or-true}
use Rattle.std.proofs.lemmas.Bool.{lt-leb}
use Rattle.std.proofs.lemmas.Bool.Decides.{nat_tests}
use Rattle.matching.specs.Words.{same}
use Rattle.script.specs.Words.{reach, word_of, behind, skipped}
use Rattle.script.specs.Bytes.{bytes_of}
use Rattle.script.specs.Numbers.{number_of, numbers_of}
use Rattle.script.specs.Calls.{CallOf, passed_over, not_acall, call_peek, peek_by, place_by, place_of, machines_of}
use Rattle.script.specs.Calls.{place_in, read_by, read_from, read_over, call_read, layout_of, meant, Bounded, Plain, Says, alone, Alone}
use Rattle.script.specs.Calls.{Called, name_of, Row, first_row, call_by, call_of, lend_by, lend_of, peek_of, poke_by, poke_of, size_of, table_by, table_of}
use Rattle.script.specs.declared.Call.{Call}
use Rattle.script.specs.declared.Call.TheVariants.{NotACall, PassedOver}
use Rattle.script.specs.declared.Table.{Table}
use Rattle.script.specs.declared.Table.TheVariants.{First, Second}
use Rattle.script.specs.declared.Layout.{Layout}
use Rattle.script.specs.declared.Layout.TheVariants.{Split, Whole, Bitmap}
use Rattle.script.specs.declared.names.Name.{Name}

-- ---- the numbers of a table

pub table_none : (w : List ℕ) (r : ℕ) → r ≡ reach 32 w → r ≡ length w → table_of w ≡ Some First
unfolding table_of
table_none w r e f = rw (eq-eqb (reach 32 w) (length w) (sym e ∙ f))

pub table-some : (w : List ℕ) (r : ℕ) → r ≡ reach 32 w → (r ≡ length w → ⊥) → table_of w ≡ table_by (number_of 1 (behind w))
unfolding table_of
table-some w r e f = rw (ne_eqb (reach 32 w) (length w) (λ q. f (e ∙ q)))

-- what a call on a table says, by what was found to stand in its words
pub lend_said : (w u : List ℕ) (t : Table) (size : ℕ) {n : Option Table} {r : Option ℕ} (x : Option ℕ) → n ≡ table_of w → n ≡ Some t → size ≡ size_of t → u ≡ word_of w → r ≡ number_of size u
    → r ≡ x → lend_of (table_of w) w ≡ lend_by t x
lend_said w u t size x en et es eu er ex =
    ap (λ (n : Option Table). lend_of n w) (sym en ∙ et) ∙ ap (lend_by t) (ap₂ number_of (sym es) (sym eu) ∙ sym er ∙ ex)

pub poke_said : (w b : List ℕ) (t : Table) (size : ℕ) {n : Option Table} {r : Option (ℕ × ℕ)} (x : Option (ℕ × ℕ)) → n ≡ table_of b → b ≡ behind w → n ≡ Some t → size ≡ size_of t
    → r ≡ numbers_of (size - 1) 65535 w → r ≡ x → poke_of (table_of (behind w)) w ≡ poke_by t x
poke_said w b t size x en eb et es er ex =
    ap (λ (n : Option Table). poke_of n w) (ap table_of (sym eb) ∙ sym en ∙ et)
    ∙ ap (poke_by t) (ap (λ (m : ℕ). numbers_of (m - 1) 65535 w) (sym es) ∙ sym er ∙ ex)

pub peek_said : (w b : List ℕ) (t : Table) {n : Option Table} {r : Option (ℕ × ℕ)} (x : Option (ℕ × ℕ)) → n ≡ table_of b → b ≡ behind w → n ≡ Some t
    → r ≡ numbers_of 4294967295 256 w → r ≡ x → peek_of (table_of (behind w)) w ≡ peek_by t x
peek_said w b t x en eb et er ex =
    ap (λ (n : Option Table). peek_of n w) (ap table_of (sym eb) ∙ sym en ∙ et) ∙ ap (peek_by t) (sym er ∙ ex)

pub size-some : (t : Table) → 0 < size_of t
size-some First = omega arith
size-some Second = omega arith

pub peek_inside : (t : Table) (at count : ℕ) → at + count ≤ size_of t → peek_by t (Some (at, count)) ≡ call_peek at count t
peek_inside t at count h = rw (le-leb _ _ h)

pub peek_outside : (t : Table) (at count : ℕ) → size_of t < at + count → peek_by t (Some (at, count)) ≡ not_acall
peek_outside t at count h = rw (lt-leb _ _ h)

-- ---- the place of a read

-- numbers before others
abbrev pub before : List ℕ → Option (List ℕ) → Option (List ℕ)
before front (Some more) = Some (front ++ more)
before front None = None

pub before-none : (x : Option (List ℕ)) → before [] x ≡ x
before-none (Some more) = refl
before-none None = refl

before-before : (l m : List ℕ) (x : Option (List ℕ)) → before l (before m x) ≡ before (l ++ m) x
before-before l m (Some n) = ap Some (sym (append_assoc l m n))
before-before l m None = refl

place-first : (n : ℕ) (x : Option (List ℕ)) → place_by (Some n) x ≡ before (n ∷ []) x
place-first n (Some more) = refl
place-first n None = refl

place-step : (k i : ℕ) (w : List ℕ) → i < k → place_of (k - i) w ≡ place_by (number_of 65535 (word_of w)) (place_of (k - (i + 1)) (behind w))
unfolding place_of
place-step k i w h = rw (let e : k - i ≡ suc (k - (i + 1)) = omega arith in e)

pub place-start : (k : ℕ) (w : List ℕ) → place_of k w ≡ before [] (place_of (k - 0) w)
place-start k w = ap (λ (n : ℕ). place_of n w) (let e : k ≡ k - 0 = omega arith in e) ∙ sym (before-none (place_of (k - 0) w))

-- one number more is put
pub place-more : (k i n : ℕ) (w rest next ns : List ℕ) → i < k → i < length ns → number_of 65535 (word_of rest) ≡ Some n → next ≡ behind rest
    → place_of k w ≡ before (take i ns) (place_of (k - i) rest) → place_of k w ≡ before (take (i + 1) (set ns i n)) (place_of (k - (i + 1)) next)
place-more k i n w rest next ns h g e f p =
    p
    ∙ ap (before (take i ns)) (place-step k i rest h ∙ ap (λ (x : Option ℕ). place_by x (place_of (k - (i + 1)) (behind rest))) e
    ∙ place-first n (place_of (k - (i + 1)) (behind rest)))
    ∙ before-before (take i ns) (n ∷ []) (place_of (k - (i + 1)) (behind rest))
    ∙ ap (λ (l : List ℕ). before l (place_of (k - (i + 1)) (behind rest))) (sym taken)
    ∙ ap (λ (l : List ℕ). before (take (i + 1) (set ns i n)) (place_of (k - (i + 1)) l)) (sym f)
  where
    taken : take (i + 1) (set ns i n) ≡ take i ns ++ (n ∷ [])
    taken = rw (add-one i) (take-suc-set ns i n g)

pub place-fails : (k i : ℕ) (w rest ns : List ℕ) → i < k → number_of 65535 (word_of rest) ≡ None
    → place_of k w ≡ before (take i ns) (place_of (k - i) rest) → place_of k w ≡ None
place-fails k i w rest ns h e p =
    p ∙ ap (before (take i ns)) (place-step k i rest h ∙ ap (λ (x : Option ℕ). place_by x (place_of (k - (i + 1)) (behind rest))) e)

pub place-whole : (k i : ℕ) (w rest ns : List ℕ) → k ≡ i → place_of k w ≡ before (take i ns) (place_of (k - i) rest) → place_of k w ≡ Some (take k ns)
unfolding place_of
place-whole k i w rest ns e p =
    p
    ∙ ap (λ (n : ℕ). before (take i ns) (place_of n rest)) (let z : k - i ≡ 0 = omega arith in z)
    ∙ ap Some (append-nil (take i ns) ∙ ap (λ (n : ℕ). take n ns) (sym e))

pub ruleset places = (place-more, place-fails, place-whole)

pub machines-most : (layout : Layout) → machines_of layout ≤ 16
machines-most Split = omega arith
machines-most Whole = omega arith
machines-most Bitmap = omega arith

-- ---- a line's call

-- a call says what another says that it is
pub says_filled : {bytes : List ℕ} {says : CallOf} {r call : Call} → r ≡ call → Says bytes says call → Says bytes says r
says_filled {bytes} {says} e p = subst (Says bytes says) (sym e) p

pub filled_plain : {bytes : List ℕ} {says : CallOf} {call : Call} → Plain says call → Says bytes says call
filled_plain {bytes} p = record { means = p.means bytes; bounded = p.bounded }

pub says_none : {bytes : List ℕ} {says : CallOf} {r : Call} → r ≡ NotACall → says ≡ not_acall → Says bytes says r
says_none {bytes} e f = record { means = ap (meant bytes) e ∙ sym f; bounded = subst Bounded (sym e) tt }

pub says_over : {bytes : List ℕ} {says : CallOf} {r : Call} → r ≡ PassedOver → says ≡ passed_over → Says bytes says r
says_over {bytes} e f = record { means = ap (meant bytes) e ∙ sym f; bounded = subst Bounded (sym e) tt }

pub says_as : {bytes : List ℕ} {x y : CallOf} {r : Call} → Says bytes x r → x ≡ y → Says bytes y r
says_as s e = record { means = s.means ∙ e; bounded = s.bounded }

pub plain_none : Plain not_acall NotACall
plain_none = record { means = λ bytes. refl; bounded = tt }

pub plain_alone : {whole : Bool} {says : CallOf} {call r : Call} → Alone whole call r → Plain says call → Plain (alone whole says) r
plain_alone {whole = true} e p = record { means = λ bytes. ap (meant bytes) e.is ∙ p.means bytes; bounded = subst Bounded (sym e.is) p.bounded }
plain_alone {whole = false} e p = record { means = λ bytes. ap (meant bytes) e.is; bounded = subst Bounded (sym e.is) tt }

-- a row of calls: the name is the row's, and the line says what that row means
pub called : {name k : Name} {whole : Bool} {words bytes : List ℕ} {r : Call} → name ≡ k → Says bytes (call_by (Some k) whole words) r
    → Called name whole words bytes r
called {whole = whole} {words = words} {bytes = bytes} {r = r} e s =
    record { says = subst (λ (n : Name). Says bytes (call_by (Some n) whole words) r) (sym e) s }

pub call_long : (l : List ℕ) → 20000 < length l → call_of l ≡ not_acall
unfolding call_of
call_long l h = rw (lt-ltb _ _ h)

pub call_empty : (l : List ℕ) → length l ≡ 0 → call_of l ≡ passed_over
unfolding call_of
call_empty [] e = refl
call_empty (x ∷ l) e = absurd (omega arith)

pub call_comment : (l : List ℕ) → length l ≤ 20000 → get_or l 0 0 ≡ 35 → call_of l ≡ passed_over
unfolding call_of
call_comment l h e = rw (le-ltb _ _ h, eq-eqb (get_or l 0 0) 35 e, or-true)

pub call_named : (l w b : List ℕ) (n : Option Name) (r : ℕ) → length l ≤ 20000 → (length l ≡ 0 → ⊥) → (get_or l 0 0 ≡ 35 → ⊥)
    → w ≡ word_of l → n ≡ name_of w → r ≡ reach 32 l → b ≡ behind l → call_by n (eqb r (length l)) b ≡ call_of l
unfolding call_of
call_named l w b n r h e f ew en er eb = rw (en, ew, er, eb, le-ltb _ _ h, ne_eqb (length l) 0 e, ne_eqb (get_or l 0 0) 35 f)

-- ---- a read

pub read-no-place : (layout : Layout) (count room k : ℕ) (w : List ℕ) (p : Option (List ℕ)) → k ≡ machines_of layout → place_in k p ≡ place_of k w
    → p ≡ None → read_from layout count room w ≡ not_acall
unfolding read_from
read-no-place layout count room k w p e f g =
    ap (λ (x : Option (List ℕ)). read_by layout count room x (bytes_of (skipped (machines_of layout) w)))
    (ap (λ (n : ℕ). place_of n w) (sym e) ∙ sym f ∙ ap (place_in k) g)

read_none : (layout : Layout) (count room : ℕ) (x : Option (List ℕ)) → read_by layout count room x None ≡ not_acall
read_none layout count room (Some place) = refl
read_none layout count room None = refl

pub read-no-bytes : (layout : Layout) (count room k : ℕ) (w : List ℕ) → k ≡ machines_of layout → bytes_of (skipped k w) ≡ None
    → read_from layout count room w ≡ not_acall
unfolding read_from
read-no-bytes layout count room k w e f =
    ap (read_by layout count room (place_of (machines_of layout) w)) (ap (λ (n : ℕ). bytes_of (skipped n w)) (sym e) ∙ f)
    ∙ read_none layout count room (place_of (machines_of layout) w)

pub read_whole : (layout : Layout) (count room k : ℕ) (w piece numbers : List ℕ) (p : Option (List ℕ)) → k ≡ machines_of layout → place_in k p ≡ place_of k w
    → p ≡ Some numbers → bytes_of (skipped k w) ≡ Some piece
    → read_from layout count room w ≡ call_read layout count room (take (machines_of layout) numbers) piece
unfolding read_from
read_whole layout count room k w piece numbers p e f g b =
    ap (λ (x : Option (List ℕ)). read_by layout count room x (bytes_of (skipped (machines_of layout) w)))
    (ap (λ (n : ℕ). place_of n w) (sym e) ∙ sym f ∙ ap (place_in k) g
    ∙ ap (λ (n : ℕ). Some (take n numbers)) e)
    ∙ ap (read_by layout count room (Some (take (machines_of layout) numbers))) (ap (λ (n : ℕ). bytes_of (skipped n w)) (sym e) ∙ b)

pub over_no-count : (layout : Layout) (w : List ℕ) → number_of 4294967295 (word_of w) ≡ None → read_over layout w ≡ not_acall
unfolding read_over
over_no-count layout w e = rw e

pub over_no-room : (layout : Layout) (w : List ℕ) (count : ℕ) → number_of 4294967295 (word_of w) ≡ Some count
    → number_of 2048 (word_of (behind w)) ≡ None → read_over layout w ≡ not_acall
unfolding read_over
over_no-room layout w count e f = rw (e, f)

pub over_both : (layout : Layout) (w : List ℕ) (count room : ℕ) → number_of 4294967295 (word_of w) ≡ Some count
    → number_of 2048 (word_of (behind w)) ≡ Some room → read_over layout w ≡ read_from layout count room (skipped 2 w)
unfolding read_over
over_both layout w count room e f = rw (e, f)

pub layout_said : (u : List ℕ) {v : List ℕ} {r : Option Layout} (x : Option Layout) → r ≡ layout_of v → v ≡ u → r ≡ x → layout_of u ≡ x
layout_said u x f e g = sym (ap layout_of e) ∙ sym f ∙ g

-- a row of names above others
pub row : {A : Type 0} {word call : List ℕ} {name other below r : A} → Row word call name other r → other ≡ below → r ≡ cond (same word call) name below
row {word = word} {call = call} {name = name} e q = e.is ∙ ap (cond (same word call) name) q

-- ---- the row that a search finds

eqb_swap : (x y : ℕ) → eqb x y ≡ eqb y x
eqb_swap x y = grind (arith, nat_tests)

same_other : (v w : List ℕ) → bytes_eq v w ≡ same w v
unfolding same
same_other [] [] = refl
same_other [] (y ∷ w) = refl
same_other (x ∷ v) [] = refl
same_other (x ∷ v) (y ∷ w) = ap₂ ◌&&◌ (eqb_swap x y) (same_other v w)

first_row_is : {B A : Type 0} (call : B → List ℕ) (name : B → A) (word : List ℕ) (rows : List B)
    → option_map name (find (λ row. bytes_eq (call row) word) rows) ≡ first_row call name word rows
first_row_is call name word [] = refl
first_row_is call name word (r ∷ rows) = rw (same_other (call r) word) (go (same word (call r)) (first_row_is call name word rows))
  where
    go : (t : Bool) → option_map name (find (λ row. bytes_eq (call row) word) rows) ≡ first_row call name word rows
        → option_map name (cond t (Some r) (find (λ row. bytes_eq (call row) word) rows)) ≡ cond t (Some (name r)) (first_row call name word rows)
    go true e = refl
    go false e = e

-- as the library's search finds that row
pub first_row_found : {B A : Type 0} (call : B → List ℕ) (name : B → A) (word : List ℕ) (rows : List B) {o : Option B}
    → o ≡ find (λ row. bytes_eq (call row) word) rows → option_map name o ≡ first_row call name word rows
first_row_found call name word rows e = ap (option_map name) e ∙ first_row_is call name word rows
