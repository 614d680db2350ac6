-- What a compilation gives whatever its form: a run of what it wrote returns what the rule set means, its bytes are those of the form,
-- and the set is one of which nothing is refused.
use mathlib.Core.Path.{◌≡◌}
use mathlib.Core.List.{List}
use mathlib.Core.Option.{some}
use Prim.Native.Nat.{ℕ}
use lib.ListN.{length}
use Rattle.definitions.specs.declared.Answer.{Answer}
use Rattle.definitions.specs.Word.{AreBytes}
use Rattle.definitions.specs.Machine.{filter_bytes, filter_of, Call, returns, runs}
use Rattle.definitions.specs.RuleSet.{RuleSet, meaning}
use Rattle.definitions.specs.Format.{read}
use Rattle.definitions.specs.Answer.{refusal}
use Rattle.definitions.specs.Compiled.{FormOf, filter_in, Behaves}
use Rattle.theorems.specs.Outputs.{Output, list, search, form_in, answer_in, Promised}
use Rattle.theorems.proofs.RoundTrip.{read_written}
use Rattle.theorems.proofs.Outputs.{compiles_in}
use Rattle.behaviour.specs.Filters.{FilterOf}

pub record Known (o : Output) (set after : List ℕ) (r : Answer) : Type 0 where
  pub rules : RuleSet
  pub from : read set ≡ some rules
  pub nothing : (refusal rules).code ≡ 0
  pub form : FormOf rules set
  pub same : filter_in r after ≡ filter_bytes (form_in o rules)

module _ (set before after : List ℕ) (r : Answer) where
  pub promised_behaves : (o : Output) → Promised o set before after r → Behaves set before after r
  promised_behaves list p = p.behaves
  promised_behaves search p = p.behaves

  promised_answer : (o : Output) → Promised o set before after r → r ≡ answer_in o set (length before)
  promised_answer list p = p.answer
  promised_answer search p = p.answer

  promised_same : (o : Output) → Promised o set before after r → r.code ≡ 0 → (rs : RuleSet) → FormOf rs set
      → filter_in r after ≡ filter_bytes (form_in o rs)
  promised_same list p = p.same
  promised_same search p = p.same

  pub known : (o : Output) → AreBytes set → Promised o set before after r → r.code ≡ 0 → Known o set after r
  known o bytes p z =
      let k = compiles_in o set (length before) r (promised_answer o p) z in
      let w = read_written set bytes k.0 k.1.from in
      let f : FormOf k.0 set = record { ranged = w.0; spelled = w.1 } in
      record { rules = k.0; from = k.1.from; nothing = k.1.nothing; form = f; same = promised_same o p z k.0 f }

pub does : (rs : RuleSet) (f : List ℕ) → FilterOf rs f → (c : Call) → runs (filter_of f) c ≡ returns (meaning rs c)
does rs f k c =
    rw k.is
    ((promised_behaves k.set k.before k.after k.answer k.output k.promised).right k.compiled rs k.form c)

pub returned : {a b : ℕ} → returns a ≡ returns b → a ≡ b
returned h = cc
