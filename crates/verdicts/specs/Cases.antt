-- When each answer of `decide`, of `piece`, of `begin` and of `replace` is given.
use Rattle.desk.specs.Given.{OpenAnswer, ReplaceAnswer, not_held}
use Rattle.gate.specs.Given.{PieceAnswer, DecideAnswer}
use Rattle.gate.specs.declared.Piece.TheVariants as P
use Rattle.gate.specs.declared.PieceRefusal.TheVariants as N
use Rattle.gate.specs.declared.Verdict.TheVariants as Q
use Rattle.std.specs.Prelude.{ℕ, false, ◌↔◌, ◌⊎◌, ◌≡◌, length, Ok, Err}
use Rattle.desk.specs.declared.Edition.{Edition}
use Rattle.desk.specs.declared.Serial.{Serial}
use Rattle.history.specs.Verdict.{EndsAt}
use Rattle.matching.specs.Tags.{Tags}
use Rattle.matching.specs.Words.{Word}
use Rattle.desk.specs.Layout.{Order, Sizes}
use Rattle.verdicts.specs.GateHistory.{GateWorld, NotReplaced, Readable, Replaced, Undecided, approval_at, undecided_of}
use Rattle.verdicts.specs.Mask.{mask_of}
use Rattle.history.specs.Cases.{OpensAs, ReplacesAs}

-- no tag ends anywhere in the bytes
abbrev pub Clean : Tags → Word → Type 0
Clean tags bytes = (i e : ℕ) → EndsAt tags bytes i e → ⊥

module _ (w : GateWorld) (s : Serial) where
  -- there is no undecided approval of the serial
  abbrev pub IsNone : Type 0
  IsNone = (k : ℕ) → Undecided w s k → ⊥

  -- there is one, and a replacement was accepted since it began; its edition is the count of those accepted before
  abbrev pub IsStale : Edition → Type 0
  IsStale e = (k : ℕ) × Undecided w s k × Replaced w k × (e.0 ≡ (approval_at w k).accepted)

  -- there is one, none was accepted since it began, and not every byte handed in was taken: its ticket counts fewer (`unread-is-short` in
  -- Calls.antt)
  abbrev pub IsUnread : Type 0
  IsUnread = (k : ℕ) × Undecided w s k × NotReplaced w k × ((approval_at w k).whole ≡ false)

  -- there is one, none was accepted since it began, and every byte handed in was taken: its ticket counts them all (`taken-is-handed` there)
  abbrev pub IsRead : Type 0
  IsRead = (k : ℕ) × Readable w s k

  -- and no tag of the set in force ends anywhere in the bytes handed in
  abbrev pub IsClean : Type 0
  IsClean = (k : ℕ) × Readable w s k × Clean w.tags (approval_at w k).handed

  -- or some do, and this is their mask
  abbrev pub IsTagged : ℕ → Type 0
  IsTagged mask = (k : ℕ) × Readable w s k × (mask ≡ mask_of w.tags (approval_at w k).handed) × (mask ≡ 0 → ⊥)

  -- whatever tables the pieces were lent
  pub record OverAnyTables (answer : DecideAnswer) : Type 0 where
    pub none : (answer ≡ Err not_held) ↔ IsNone
    pub stale : (e : Edition) → (answer ≡ Ok (Q.Stale e)) ↔ IsStale e
    pub unread : (answer ≡ Ok Q.Unread) ↔ IsUnread
    pub pass : answer ≡ Ok Q.Pass → IsRead
    pub hold : (mask : ℕ) → answer ≡ Ok (Q.Hold mask) → IsRead

  -- over tables as left
  pub record Exactly (answer : DecideAnswer) : Type 0 where
    pub none : (answer ≡ Err not_held) ↔ IsNone
    pub stale : (e : Edition) → (answer ≡ Ok (Q.Stale e)) ↔ IsStale e
    pub unread : (answer ≡ Ok Q.Unread) ↔ IsUnread
    pub pass : (answer ≡ Ok Q.Pass) ↔ IsClean
    pub hold : (mask : ℕ) → (answer ≡ Ok (Q.Hold mask)) ↔ IsTagged mask

  -- there is one, and none was accepted since it began
  abbrev pub IsCurrent : Type 0
  IsCurrent = (k : ℕ) × Undecided w s k × NotReplaced w k

  -- a piece, whatever table it is lent: read, or cut after so many bytes, exactly if there is a current approval
  pub record PieceExactly (answer : PieceAnswer) : Type 0 where
    pub none : (answer ≡ Err N.NoTicket) ↔ IsNone
    pub stale : (e : Edition) → (answer ≡ Err (N.Stale e)) ↔ IsStale e
    pub fed : IsCurrent ↔ ((answer ≡ Ok P.Read) ⊎ ((n : ℕ) × (answer ≡ Ok (P.Cut n))))

-- a beginning: refused exactly where no replacement was accepted; then where the serials are used up; then where as many approvals are undecided
-- as there are rooms, so that the room of a decided one serves again; else the serial one above the number begun
abbrev pub BeginExactly : GateWorld → OpenAnswer → Type 0
BeginExactly w answer = OpensAs w.accepted (length w.approvals) (undecided_of w.approvals) answer

-- a replacement: a set fault or TABLE exactly where building answers it; then EDITION where the editions are used up; else the edition one
-- above the number accepted, and the number of tags
abbrev pub ReplaceExactly : GateWorld → Order → Sizes → ReplaceAnswer → Type 0
ReplaceExactly w order len answer = ReplacesAs w.accepted order len answer
