-- FRAME: whatever is changed for one number, calls with another one get what they got.
use mathlib.Core.Path.{◌≡◌, refl, sym, ap, ◌∙◌}
use mathlib.Core.List.{List, ◌∷◌}
use Prim.Native.Nat.{ℕ}
use borrow.Author.Tests.{ne_eqb}
use Rattle.definitions.specs.Machine.{Call, returns}
use Rattle.definitions.specs.RuleSet.{Entry, listed}
use Rattle.behaviour.specs.Changes.{OnlyAt, enlisted, altered}
use Rattle.behaviour.specs.Statements.{Frame, FrameBytes}
use Rattle.behaviour.proofs.Changes.{in_front_lem, meaning_changed}
use Rattle.behaviour.proofs.Outputs.{does}

module _ (c : Call) (n : ℕ) (other : c.number ≡ n → ⊥) (m d : ℕ) where
  -- an entry of that number is walked past
  past : (e : Entry) (es : List Entry) → e.number ≡ n → listed c m d (e ∷ es) ≡ listed c m d es
  unfolding listed
  past e es own = rw (ne_eqb c.number e.number (λ h. other (h ∙ own)))

  listed_same : (old new : List Entry) → OnlyAt n old new → listed c m d old ≡ listed c m d new
  listed_same old new (enlisted before behind e own p q) =
      rw (p, q) (in_front_lem c (λ a b. a ≡ b) (λ a. refl) m d before behind (e ∷ behind) (sym (past e behind own)))
  listed_same old new (altered before behind e f own too p q) =
      rw (p, q) (in_front_lem c (λ a b. a ≡ b) (λ a. refl) m d before (e ∷ behind) (f ∷ behind) (past e behind own ∙ sym (past f behind too)))

pub frame : Frame
frame n old new g c other =
    meaning_changed c (λ a b. a ≡ b) (λ a. refl) (OnlyAt n) old new g (listed_same c n other old.on_match old.mismatch old.entries new.entries g.entries)

pub frame_bytes : FrameBytes
frame_bytes n old new f g p q change c other = does old f p c ∙ ap returns (frame n old new change c other) ∙ sym (does new g q c)
