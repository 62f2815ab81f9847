-- What is put waits behind what waited.
use Rattle.std.specs.Prelude.{ℕ, ◌+◌, ◌<◌, ◌≤◌, length, get_or, set, take, ltb, Bool, true, false, List, [], ◌∷◌, ◌++◌, ◌≡◌, refl}
use Rattle.std.proofs.Common.{lt-ltb, le-ltb, ltb-true, length-set, take-suc, take-suc-set, take_all, append-nil, append_assoc, sym, ap, ◌∙◌, add-one, arith}
use Rattle.output.specs.declared.Buffer.{Buffer}
use Rattle.output.specs.Buffer.{buffer, waiting, put_by, put_byte, put_bytes, Puts, handed, handed_by}

pub put-with-room : (b : Buffer) (x : ℕ) → b.used < 65536 → Puts b (x ∷ []) (buffer (set b.bytes b.used x) (b.used + 1))
unfolding put_bytes put_byte put_by
put-with-room b x h = record { same = rw (lt-ltb b.used 65536 h) refl }

pub put_when_full : (b : Buffer) (x : ℕ) → 65536 ≤ b.used → Puts b (x ∷ []) (buffer (set b.bytes 0 x) 1)
unfolding put_bytes put_byte put_by
put_when_full b x h = record { same = rw (le-ltb b.used 65536 h) refl }

pub put-none : (b : Buffer) → Puts b [] b
unfolding put_bytes
put-none b = record { same = refl }

pub put_append : (b : Buffer) (xs ys : List ℕ) → put_bytes b (xs ++ ys) ≡ put_bytes (put_bytes b xs) ys
unfolding put_bytes
put_append b [] ys = refl
put_append b (x ∷ xs) ys = put_append (put_byte b x) xs ys

-- bytes, and then more: so a line is put part by part
pub put_then : {b c d : Buffer} {xs ys : List ℕ} → Puts b xs c → Puts c ys d → Puts b (xs ++ ys) d
put_then {b} {c} {d} {xs} {ys} p q =
    record { same = q.same ∙ ap (λ (e : Buffer). put_bytes e ys) p.same ∙ sym (put_append b xs ys) }

-- the first bytes of a list, and one more
pub put_next : {b c d : Buffer} (xs : List ℕ) (i : ℕ) → i < length xs → Puts b (take i xs) c → Puts c (get_or xs i 0 ∷ []) d → Puts b (take (i + 1) xs) d
put_next xs i h p q = rw (add-one i, take-suc xs i 0 h) (put_then p q)

pub put_all : {b c : Buffer} (xs : List ℕ) (i : ℕ) → length xs ≤ i → Puts b (take i xs) c → Puts b xs c
put_all xs i h p = rw (take_all i xs h) at p

-- one byte: what is handed out and what waits is what waited, and the byte
put_in_order : (b : Buffer) (x : ℕ) → length b.bytes ≡ 65536 → handed_by b (ltb b.used 65536) ++ waiting (put_byte b x) ≡ waiting b ++ (x ∷ [])
unfolding put_byte put_by handed_by
put_in_order b x h = go (ltb b.used 65536) refl
  where
    go : (t : Bool) → ltb b.used 65536 ≡ t → handed_by b t ++ waiting (put_by b x t) ≡ waiting b ++ (x ∷ [])
    go true room =
        let below : b.used < length b.bytes = omega (arith, h, ltb-true b.used 65536 room) in
        rw (add-one b.used, take-suc-set b.bytes b.used x below) refl
    go false full =
        let some : 0 < length b.bytes = omega (arith, h) in
        rw (take-suc-set b.bytes 0 x some) refl

put-length : (b : Buffer) (x : ℕ) → length (put_byte b x).bytes ≡ length b.bytes
unfolding put_byte put_by
put-length b x = go (ltb b.used 65536)
  where
    go : (t : Bool) → length (put_by b x t).bytes ≡ length b.bytes
    go true = length-set b.bytes b.used x
    go false = length-set b.bytes 0 x

-- no byte is lost, doubled or moved: what was handed out and what waits is what waited and what was put
pub in_order : (b : Buffer) (xs : List ℕ) → length b.bytes ≡ 65536 → handed b xs ++ waiting (put_bytes b xs) ≡ waiting b ++ xs
unfolding handed put_bytes
in_order b [] h = sym (append-nil (waiting b))
in_order b (x ∷ xs) h =
    let first = handed_by b (ltb b.used 65536) in
    let next = put_byte b x in
    append_assoc first (handed next xs) (waiting (put_bytes next xs))
    ∙ ap (λ (l : List ℕ). first ++ l) (in_order next xs (put-length b x ∙ h))
    ∙ sym (append_assoc first (waiting next) xs)
    ∙ ap (λ (l : List ℕ). l ++ xs) (put_in_order b x h)
    ∙ append_assoc (waiting b) (x ∷ []) xs
