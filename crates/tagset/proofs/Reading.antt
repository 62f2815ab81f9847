-- The entries, as the loop has read them.
use Prim.Native.Nat.{◌+◌, ◌-◌, ◌<◌, ◌≤◌, suc, ℕ}
use mathlib.Core.List.{List, [], ◌++◌, ◌∷◌, append_assoc}
use mathlib.Core.Logic.{◌≢◌}
use mathlib.Core.Path.{◌∙◌, ◌≡◌, ap, refl, subst, sym}
use native.Mathlib.Numerals.{add-one}
use native.Mathlib.Omega.{arith}
use lib.ListN.{drop, drop_of_length-le, length, length-append, length-drop, replicate, set}
use lib.Seq.{drop-drop, set_at}
use Rattle.std.specs.Prelude.{Err, Ok}
use Rattle.matching.specs.Kinds.{TagKind}
use Rattle.matching.specs.Tags.{Tag, Tags}
use Rattle.tagset.specs.Answer.{along, begin_of, begun, end_of, ended, kind_of_tag, kinds_from, padded, placed, set_read, tags_lie}
use Rattle.tagset.specs.Grammar.{EntryOf, entries_from, entry_of, kind_at, length_at, tag_at}
use Rattle.tagset.specs.Laws.Entries.{EntryCase, entry_case, fails, passed-all, passed-fails, passed-few, passes, payload_length}
use Rattle.tagset.specs.Laws.Exact.{passed-count}
use Rattle.tagset.specs.Laws.Places.{along-length, along_snoc, size_snoc, size_of}
use Rattle.tagset.specs.Refusals.{Passed, Whole, at_front, one_more}
use Rattle.tagset.specs.declared.Place.{Place}
use Rattle.tagset.specs.declared.SetFault.{SetFault}

padded-set : (l : List ℕ) (v k : ℕ) → length l ≡ k → k < 16 → set (padded 16 l) k v ≡ padded 16 (l ++ v ∷ [])
padded-set l v k e h =
    let n : 16 - length l ≡ suc (15 - length l) = omega arith in
    let m : 16 - length (l ++ v ∷ []) ≡ 15 - length l = omega (arith, length-append l (v ∷ [])) in
    rw (n, m) (set_at l 0 (replicate (15 - length l) 0) v k e ∙ sym (append_assoc l (v ∷ []) (replicate (15 - length l) 0)))

-- one more number, in each array
place-more : (f : ℕ → Tag → ℕ) (l : List ℕ) (ts : Tags) (t : Tag) (k v : ℕ) → l ≡ padded 16 (along f 0 ts) → length ts ≡ k → k < 16
    → v ≡ f (size_of ts) t
    → set l k v ≡ padded 16 (along f 0 (ts ++ t ∷ []))
place-more f l ts t k v e n h ev =
    ap (λ (x : List ℕ). set x k v) e ∙ padded-set (along f 0 ts) v k (along-length f 0 ts ∙ n) h
    ∙ ap (padded 16) (ap (λ (x : ℕ). along f 0 ts ++ x ∷ []) ev ∙ sym (along_snoc f 0 ts t (size_of ts) (omega arith)))

-- the first k entries passed, and end at `at`
pub record Gone (ks : List TagKind) (bytes from to kinds : List ℕ) (k at : ℕ) : Type 0 where
  pub tags : Tags
  pub passed : Passed ks bytes k tags (drop at bytes)
  pub place : at ≡ size_of tags
  pub within : at ≤ length bytes
  pub froms : from ≡ padded 16 (begun 0 tags)
  pub tos : to ≡ padded 16 (ended 0 tags)
  pub kinded : kinds ≡ padded 16 (kinds_from 0 tags)

pub gone-start : (ks : List TagKind) (bytes : List ℕ) → Gone ks bytes (replicate 16 0) (replicate 16 0) (replicate 16 0) 0 0
unfolding size_of along
gone-start ks bytes = record { tags = []; passed = at_front; place = refl; within = omega arith; froms = refl; tos = refl; kinded = refl }

module _ {ks : List TagKind} {bytes from to kinds : List ℕ} {k at : ℕ} (g : Gone ks bytes from to kinds k at) where
  pub gone-few : k ≤ 16
  gone-few = passed-few g.passed

  pub gone-all : length bytes ≤ at → Ok (record { count = k; from = from; to = to; kinds = kinds }) ≡ set_read (entries_from ks 17 0 bytes)
  unfolding set_read tags_lie
  gone-all h =
      let p : Passed ks bytes k g.tags [] = subst (Passed ks bytes k g.tags) (drop_of_length-le bytes h) g.passed in
      rw (passed-all p, passed-count p, g.froms, g.tos, g.kinded)

  module _ (left : at < length bytes) where
    some : 0 < length (drop at bytes)
    some = omega (arith, length-drop at bytes)

    pub gone-fails : {fault : SetFault} → Err fault ≡ placed at (entry_of ks k (drop at bytes)) → Err fault ≡ set_read (entries_from ks 17 0 bytes)
    unfolding set_read
    gone-fails {fault} e = go (entry_of ks k (drop at bytes)) (entry_case ks k (drop at bytes)) e
      where
        go : (o : EntryOf) → EntryCase ks k (drop at bytes) o → Err fault ≡ placed at o → Err fault ≡ set_read (entries_from ks 17 0 bytes)
        go o (passes w) i = let z : ◌≡◌ {A = ℕ} 0 1 = cc in absurd (omega arith)
        go o (fails {fault = f} h) i = let q : fault ≡ f = cc in rw (passed-fails g.passed some h, q)

    -- one more entry passed
    pub record More (begin end kind : ℕ) : Type 0 where
      pub few : k < 16
      pub on : at < end
      pub gone : Gone ks bytes (set from k begin) (set to k end) (set kinds k kind) (k + 1) end

    pub gone-more : (p : Place) → Ok p ≡ placed at (entry_of ks k (drop at bytes)) → More p.from p.to p.kind
    gone-more p e = go (entry_of ks k (drop at bytes)) (entry_case ks k (drop at bytes)) e
      where
        whole : {begin end kind : ℕ} → Whole ks k (drop at bytes) → begin ≡ at + 4 → end ≡ at + 4 + length (tag_at (drop at bytes)).word → kind ≡ kind_at (drop at bytes)
            → More begin end kind
        whole {begin} {end} {kind} w eb ee ek =
            let ts = g.tags in
            let t = tag_at (drop at bytes) in
            let n : length t.word ≡ length_at (drop at bytes) = payload_length w in
            let few : k < 16 = let r : k ≢ 16 = w.room in omega (arith, gone-few) in
            let count : length ts ≡ k = passed-count g.passed in
            record {
              few = few;
              on = omega arith;
              gone = record {
                tags = ts ++ t ∷ [];
                passed = rw (add-one k) (subst (Passed ks bytes (suc k) (ts ++ t ∷ [])) (rest w ee) (one_more g.passed w));
                place = omega (arith, g.place, size_snoc ts t);
                within = omega (arith, n, w.rest, length-drop at bytes, left);
                froms = place-more begin_of from ts t k begin g.froms count few (eb ∙ ap (λ (x : ℕ). x + 4) g.place);
                tos = place-more end_of to ts t k end g.tos count few (ee ∙ ap (λ (x : ℕ). x + 4 + length t.word) g.place);
                kinded = place-more kind_of_tag kinds ts t k kind g.kinded count few ek;
              };
            }
          where
            rest : Whole ks k (drop at bytes) → end ≡ at + 4 + length (tag_at (drop at bytes)).word
                → drop (4 + length_at (drop at bytes)) (drop at bytes) ≡ drop end bytes
            rest w ee =
                let m : at + (4 + length_at (drop at bytes)) ≡ end = omega (arith, payload_length w) in
                drop-drop (4 + length_at (drop at bytes)) at bytes ∙ ap (λ (i : ℕ). drop i bytes) m

        go : (o : EntryOf) → EntryCase ks k (drop at bytes) o → Ok p ≡ placed at o → More p.from p.to p.kind
        go o (passes w) i =
            let t = tag_at (drop at bytes) in
            let q : p ≡ record { from = at + 4; to = at + 4 + length t.word; kind = t.kind } = cc in
            whole w (ap (λ (x : Place). x.from) q) (ap (λ (x : Place). x.to) q) (ap (λ (x : Place). x.kind) q)
        go o (fails f) i = let z : ◌≡◌ {A = ℕ} 0 1 = cc in absurd (omega arith)
