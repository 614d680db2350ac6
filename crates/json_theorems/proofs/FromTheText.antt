-- From the text to the filter: a text is read, the set of one of its names is compiled, in either form, and run on any call; the action is what the
-- lines of the filter with that name mean. Assumes nothing.
use mathlib.Core.Path.{◌≡◌, ap, subst, sym, ◌∙◌}
use mathlib.Core.Bool.{Bool, true, false, cond}
use mathlib.Core.List.{List, [], ◌∷◌}
use mathlib.Core.Option.{Option, none, some}
use Prim.Native.Nat.{ℕ}
use lib.ListN.{take, drop}
use Rattle.definitions.specs.declared.Answer.{Answer}
use Rattle.definitions.specs.declared.JsonAnswer.{JsonAnswer}
use Rattle.definitions.specs.Machine.{Call, runs, returns, filter_of}
use Rattle.definitions.specs.RuleSet.{Architecture, Rule, RuleSet, meaning}
use Rattle.definitions.specs.Format.{Each, joined, encode, native_of}
use Rattle.definitions.specs.Compiled.{FormOf, filter_in}
use Rattle.definitions.specs.JsonForm.{same, Filter}
use Rattle.definitions.specs.CallNames.{Slot, slots_in, slot_count}
use Rattle.definitions.specs.Collected.{numbered, set_with, taken, set_of, NamedSet, encode_named, sets_of, now, filter_meaning}
use Rattle.definitions.specs.JsonReader.{got}
use Rattle.definitions.specs.FormReader.{judges_of, read_filters}
use Rattle.definitions.specs.FromJson.{Means, Compiles, FromJson}
use Rattle.theorems.specs.Outputs.{Output, list, search, Promised}
use Rattle.json_theorems.proofs.Tests.{none_not_some, then_some, check_some}
use Rattle.json_theorems.proofs.Faith.{some_same}
use Rattle.json_theorems.proofs.Means.{filter_means_upstream}
use Rattle.json_theorems.proofs.Sets.{sets_complete}
use Rattle.json_theorems.proofs.FromJson.{Tables}

-- ---- a text means one list of sets

module _ (text table : List ℕ) (architecture : ℕ) (tables : Tables table) where
  read_so : (sets : List NamedSet) (m : Means text table architecture sets) → read_filters (judges_of (slots_in (slot_count table) table)) text ≡ got m.filters []
  read_so sets m =
      ap (λ (s : List Slot). read_filters (judges_of s) text) (tables.only m.slots m.tabled).1
      ∙ sets_complete now.join m.slots m.known (native_of architecture) text m.filters sets (record { is = m.value; written = m.written; form = m.form; made = m.made })

  pub means_one : (sets sets' : List NamedSet) → Means text table architecture sets → Means text table architecture sets' → sets ≡ sets'
  means_one sets sets' m m' =
      let e = sym (read_so sets m) ∙ read_so sets' m' in
      let filters : m.filters ≡ m'.filters = cc in
      let slots : m.slots ≡ m'.slots = sym (tables.only m.slots m.tabled).1 ∙ (tables.only m'.slots m'.tabled).1 in
      let known : m.known ≡ m'.known = some_same (sym m.named ∙ m'.named) in
      some_same (sym m.made ∙ same_sets m.slots m'.slots m.known m'.known m.filters m'.filters slots known filters ∙ m'.made)
    where
      same_sets : (s s' : List Slot) (k k' : Architecture) (fs fs' : List Filter) → s ≡ s' → k ≡ k' → fs ≡ fs'
          → sets_of now.join s k (native_of architecture) fs ≡ sets_of now.join s' k' (native_of architecture) fs'
      same_sets s s' k k' fs fs' a b c = rw (a, b, c)

-- ---- by name

-- the first filter, and the first set, with a name
abbrev pub filter_named : List ℕ → List Filter → Option Filter
filter_named name [] = none
filter_named name (f ∷ fs) = cond (same f.name name) (some f) (filter_named name fs)

abbrev pub set_named : List ℕ → List NamedSet → Option RuleSet
set_named name [] = none
set_named name (s ∷ ss) = cond (same s.name name) (some s.set) (set_named name ss)

module _ (join : List Rule → List Rule → List Rule) (table : List Slot) (a : Architecture) (native : Bool) (name : List ℕ) where
  named_set : (fs : List Filter) (sets : List NamedSet) → sets_of join table a native fs ≡ some sets → (f : Filter) → filter_named name fs ≡ some f
      → (rs : RuleSet) → set_named name sets ≡ some rs → set_of join table a native f ≡ some rs
  unfolding sets_of
  named_set [] sets e f ef rs er = absurd (none_not_some ef)
  named_set (g ∷ fs) sets e f ef rs er =
      let s = then_some (set_of join table a native g) _ sets e in
      let r = then_some (sets_of join table a native fs) _ sets s.2 in
      let is : record { name = g.name; set = s.0 } ∷ r.0 ≡ sets = some_same r.2 in
      go (same g.name name) ef s.0 s.1 r.0 (ap (set_named name) is ∙ er) (λ x y. named_set fs r.0 r.1 f x rs y)
    where
      go : (t : Bool) → cond t (some g) (filter_named name fs) ≡ some f → (one : RuleSet) → set_of join table a native g ≡ some one → (others : List NamedSet)
          → cond t (some one) (set_named name others) ≡ some rs → (filter_named name fs ≡ some f → set_named name others ≡ some rs → set_of join table a native f ≡ some rs)
          → set_of join table a native f ≡ some rs
      go true x one eo others y ih = ap (set_of join table a native) (sym (some_same x)) ∙ eo ∙ ap some (some_same y)
      go false x one eo others y ih = ih x y

named_compiles : (name : List ℕ) (sets : List NamedSet) (rs : RuleSet) → set_named name sets ≡ some rs → Each (λ s. Compiles s.set) sets → Compiles rs
named_compiles name [] rs e h = absurd (none_not_some e)
named_compiles name (s ∷ ss) rs e h = go (same s.name name) e (λ x. named_compiles name ss rs x h.1)
  where
    go : (t : Bool) → cond t (some s.set) (set_named name ss) ≡ some rs → (set_named name ss ≡ some rs → Compiles rs) → Compiles rs
    go true x ih = subst Compiles (some_same x) h.0
    go false x ih = ih x

-- the set with a name, in bytes
pub record Stands (sets : List NamedSet) (name bytes : List ℕ) (at size : ℕ) : Type 0 where
  pub set : RuleSet
  pub named : set_named name sets ≡ some set
  pub spelled : take size (drop at bytes) ≡ encode set

-- ---- the theorem

right_in : (o : Output) (set out out' : List ℕ) (a : Answer) → Promised o set out out' a → a.code ≡ 0 → (rs : RuleSet) → FormOf rs set → (c : Call)
    → runs (filter_of (filter_in a out')) c ≡ returns (meaning rs c)
right_in list set out out' a p z rs f c = p.behaves.right z rs f c
right_in search set out out' a p z rs f c = p.behaves.right z rs f c

set_means : (table : List Slot) (a : Architecture) (native : Bool) (f : Filter) (rs : RuleSet) → set_of now.join table a native f ≡ some rs
    → (c : Call) → meaning rs c ≡ filter_meaning now table a native f c
unfolding set_of
set_means table a native f rs e c =
    let n = then_some (numbered table f.lines) _ rs e in
    let k = check_some (taken (set_with a native f n.0)) _ rs n.2 in
    ap (λ (x : RuleSet). meaning x c) (sym (some_same k.1)) ∙ filter_means_upstream table a native f n.0 n.1 c

module _ (text table : List ℕ) (architecture scratch : ℕ) (tables : Tables table) (before after : List ℕ) (r : JsonAnswer)
    (done : FromJson text table architecture scratch before after r) (read : r.code ≡ 0) (sets : List NamedSet) (m : Means text table architecture sets) where
  -- the bytes in the buffer are those of the sets that the text means
  pub text_bytes : take r.end after ≡ joined encode_named sets
  text_bytes =
      let w = done.meant read in
      w.bytes ∙ ap (joined encode_named) (means_one text table architecture tables w.sets sets w.means m)

  -- compiled, the set with a name returns for every call what the lines of the filter with that name mean
  pub from_the_text : (name : List ℕ) (f : Filter) → filter_named name m.filters ≡ some f → (at size : ℕ) → Stands sets name (take r.end after) at size
      → (o : Output) (out out' : List ℕ) (a : Answer) → Promised o (take size (drop at (take r.end after))) out out' a → a.code ≡ 0
      → (c : Call) → runs (filter_of (filter_in a out')) c ≡ returns (filter_meaning now m.slots m.known (native_of architecture) f c)
  from_the_text name f ef at size stands o out out' a p z c =
      let w = done.meant read in
      let is = means_one text table architecture tables w.sets sets w.means m in
      let good = named_compiles name sets stands.set stands.named (subst (Each (λ s. Compiles s.set)) is w.compile) in
      right_in o (take size (drop at (take r.end after))) out out' a p z stands.set (record { ranged = good.ranged; spelled = sym stands.spelled }) c
      ∙ ap (λ (x : ℕ). returns x) (set_means m.slots m.known (native_of architecture) f stands.set
      (named_set now.join m.slots m.known (native_of architecture) name m.filters sets m.made f ef stands.set stands.named) c)
