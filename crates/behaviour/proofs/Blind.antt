-- BLIND: calls that are the same in all that a rule set looks at get one action.
use mathlib.Core.Path.{◌≡◌, refl, ap, sym, ◌∙◌}
use mathlib.Core.Bool.{Bool, true, false, cond}
use mathlib.Core.List.{List, [], ◌∷◌}
use Prim.Native.Nat.{ℕ}
use native.Mathlib.Omega.{arith}
use lib.Dec.{eqb}
use Rattle.definitions.specs.declared.Width.{Width}
use Rattle.definitions.specs.declared.Width.TheVariants.{Dword, Qword}
use Rattle.definitions.specs.declared.Condition.{Condition}
use Rattle.definitions.specs.Machine.{Call, returns}
use Rattle.definitions.specs.RuleSet.{Rule, Entry, argument, cut, holds, all_hold, any_holds, matches, listed, meaning, rules_of}
use Rattle.definitions.specs.Format.{Each}
use Rattle.behaviour.specs.Seen.{SameHalves, SameArguments, from}
use Rattle.behaviour.specs.Statements.{Blind, BlindBytes, BlindToArguments, BlindToPointer}
use Rattle.behaviour.proofs.Outputs.{does}

same_cut : (w : Width) (x y : ℕ) → SameHalves w x y → cut w y ≡ cut w x
same_cut Dword x y h = sym h
same_cut Qword x y h = omega (arith, h.0, h.1)

module _ (c d : Call) where
  abbrev Same : Condition → Type 0
  Same q = SameHalves q.width (argument q.index c) (argument q.index d)

  same_holds : (q : Condition) → Same q → holds d q ≡ holds c q
  unfolding holds
  same_holds q h = rw (same_cut q.width (argument q.index c) (argument q.index d) h)

  same_all : (r : Rule) → Each Same r → all_hold d r ≡ all_hold c r
  unfolding all_hold
  same_all [] h = refl
  same_all (q ∷ qs) h = rw (same_holds q h.0, same_all qs h.1)

  same_any : (rs : List Rule) → SameArguments c d rs → any_holds d rs ≡ any_holds c rs
  unfolding any_holds
  same_any [] h = refl
  same_any (r ∷ rs) h = rw (same_all r h.0, same_any rs h.1)

  same_matches : (rs : List Rule) → SameArguments c d rs → matches d rs ≡ matches c rs
  unfolding matches
  same_matches [] h = refl
  same_matches (r ∷ rs) h = same_any (r ∷ rs) h

  same_listed : (m b : ℕ) → d.number ≡ c.number → (es : List Entry) → SameArguments c d (rules_of c.number es) → listed d m b es ≡ listed c m b es
  unfolding listed rules_of
  same_listed m b same [] h = refl
  same_listed m b same (e ∷ es) h =
      go (eqb d.number e.number) (eqb c.number e.number) (ap (λ n. eqb n e.number) same) h (same_listed m b same es)
    where
      go : (s t : Bool) → s ≡ t → SameArguments c d (cond t e.rules (rules_of c.number es))
          → (SameArguments c d (rules_of c.number es) → listed d m b es ≡ listed c m b es)
          → cond s (cond (matches d e.rules) m b) (listed d m b es) ≡ cond t (cond (matches c e.rules) m b) (listed c m b es)
      go true true w h next = rw (same_matches e.rules h)
      go true false w h next = cc
      go false true w h next = cc
      go false false w h next = next h

pub blind : Blind
unfolding meaning
blind rs c d s = rw (same_listed c d rs.on_match rs.mismatch s.number rs.entries s.arguments, s.architecture, s.number)

pub blind_bytes : BlindBytes
blind_bytes rs f k c d s = does rs f k d ∙ ap returns (blind rs c d s) ∙ sym (does rs f k c)

pub blind_to_arguments : BlindToArguments
blind_to_arguments rs f k c d architecture number none =
    blind_bytes rs f k c d (record { architecture = architecture; number = number; arguments = rw none tt })

-- the same call, from wherever, has the same arguments
same_from : (pointer : ℕ) (c : Call) (rs : List Rule) → SameArguments c (from pointer c) rs
same_from pointer c [] = tt
same_from pointer c (r ∷ rs) = (conditions r, same_from pointer c rs)
  where
    halves : (w : Width) (x : ℕ) → SameHalves w x x
    halves Dword x = refl
    halves Qword x = (refl, refl)

    conditions : (r : Rule) → Each (λ (q : Condition). SameHalves q.width (argument q.index c) (argument q.index (from pointer c))) r
    conditions [] = tt
    conditions (q ∷ qs) = (halves q.width (argument q.index c), conditions qs)

pub blind_to_pointer : BlindToPointer
blind_to_pointer rs f k c pointer =
    blind_bytes rs f k c (from pointer c) (record { architecture = refl; number = refl; arguments = same_from pointer c (rules_of c.number rs.entries) })
