-- What an answer says of the rule set: 0 is given only to a set of the format that has no fault, and whose filter is short enough for the
-- limit and for the buffer; and which numbers answers have.
use mathlib.Core.Path.{◌≡◌, refl, ap, sym, ◌∙◌}
use mathlib.Core.Bool.{Bool, true, false, not}
use mathlib.Core.List.{List, [], ◌∷◌, ◌++◌}
use mathlib.Core.Option.{Option, none, some}
use Prim.Native.Nat.{ℕ, suc, ◌+◌, ◌*◌, ◌≤◌, ◌<◌}
use native.Mathlib.Omega.{arith}
use lib.Dec.{eqb, leb, ltb}
use lib.ListN.{length}
use borrow.Author.Tests.{eq-eqb, ne_eqb, eqb-true, leb-true, ltb-true, not-false}
use Rattle.definitions.specs.declared.Fault.{Fault}
use Rattle.definitions.specs.declared.Answer.{Answer}
use Rattle.definitions.specs.RuleSet.{Rule, Entry, RuleSet, one_of}
use Rattle.definitions.specs.Format.{read}
use Rattle.definitions.specs.Answer.{fault, nowhere, placeless, no_fault, unless, faults_of, condition_faults, count_faults, rule_faults, entries_faults, set_faults, too_many, filter_faults, least_of, refusal, answer, answer_by, ascending, rules_filled, indices_taken, widths_fit}
use Rattle.theorems.proofs.Tests.{either_true}
use Rattle.theorems.proofs.Faults.{least_append, least_none, least_first, has, first_of, has_append, Among, among_append, among_unless, among_parts, among_more, among_joined, lacks, Numbered, numbered, count_codes, condition_codes, count_codes_lem, condition_codes_lem, index_row, width_row, rule_row, empty_row, order_faults, rule_faults_lem}

-- ---- which numbers there are

abbrev pub rule_codes : List ℕ
rule_codes = count_codes ++ condition_codes

abbrev pub entry_codes : List ℕ
entry_codes = 2 ∷ rule_codes

abbrev pub set_codes : List ℕ
set_codes = 3 ∷ entry_codes

rule_codes_lem : (e r : ℕ) (qs : Rule) → Among rule_codes (rule_faults e r qs)
unfolding rule_faults
rule_codes_lem e r qs =
    among_joined count_codes condition_codes (count_faults e r (length qs)) (faults_of (condition_faults e r) 0 qs) (count_codes_lem e r (length qs)) (among_parts condition_codes (condition_faults e r) 0 qs (condition_codes_lem e r))

entries_codes : (l e : ℕ) (es : List Entry) → Among entry_codes (entries_faults l e es)
unfolding entries_faults one_of
entries_codes l e [] = tt
entries_codes l e (x ∷ xs) =
    among_append entry_codes (unless (leb l x.number) (fault 2 e nowhere nowhere)) (faults_of (rule_faults e) 0 x.rules ++ entries_faults (x.number + 1) (suc e) xs) (among_unless entry_codes (leb l x.number) (fault 2 e nowhere nowhere) refl)
    (among_append entry_codes (faults_of (rule_faults e) 0 x.rules) (entries_faults (x.number + 1) (suc e) xs) (among_parts entry_codes (rule_faults e) 0 x.rules (λ r qs. among_more 2 rule_codes (rule_faults e r qs) (rule_codes_lem e r qs))) (entries_codes (x.number + 1) (suc e) xs))

set_codes_lem : (rs : RuleSet) → Among set_codes (set_faults rs)
unfolding set_faults one_of
set_codes_lem rs =
    among_append set_codes (unless (not (eqb rs.mismatch rs.on_match)) (placeless 3)) (entries_faults 0 0 rs.entries)
    (among_unless set_codes (not (eqb rs.mismatch rs.on_match)) (placeless 3) refl) (among_more 3 entry_codes (entries_faults 0 0 rs.entries) (entries_codes 0 0 rs.entries))

pub filter_codes : (n long room : ℕ) → Among (6 ∷ 7 ∷ []) (filter_faults n long room)
unfolding filter_faults one_of
filter_codes n long room =
    among_append (6 ∷ 7 ∷ []) (unless (ltb n too_many) (fault 6 long nowhere nowhere)) (unless (leb (8 * n) room) (placeless 7)) (among_unless (6 ∷ 7 ∷ []) (ltb n too_many) (fault 6 long nowhere nowhere) refl) (among_unless (6 ∷ 7 ∷ []) (leb (8 * n) room) (placeless 7) refl)

pub set_lacks : (rs : RuleSet) (k : ℕ) → one_of set_codes k ≡ false → has k (set_faults rs) ≡ false
set_lacks rs k z = lacks set_codes (set_faults rs) k z (set_codes_lem rs)

pub entries_lack : (k : ℕ) → one_of entry_codes k ≡ false → (es : List Entry) → has k (entries_faults 0 0 es) ≡ false
entries_lack k z es = lacks entry_codes (entries_faults 0 0 es) k z (entries_codes 0 0 es)

both_numbered : (xs ys : List Fault) → Numbered xs → Numbered ys → Numbered (xs ++ ys)
both_numbered [] ys a b = b
both_numbered (x ∷ xs) ys a b = (a.0, both_numbered xs ys a.1 b)

pub set_numbered : (rs : RuleSet) → Numbered (set_faults rs)
set_numbered rs = numbered set_codes (set_faults rs) (unfold one_of in refl) (set_codes_lem rs)

pub filter_numbered : (n long room : ℕ) → Numbered (filter_faults n long room)
filter_numbered n long room = numbered (6 ∷ 7 ∷ []) (filter_faults n long room) (unfold one_of in refl) (filter_codes n long room)

-- ---- all faults of a set and its filter

module _ (n long : ℕ) (rs : RuleSet) (room : ℕ) where
  abbrev pub all_faults : List Fault
  all_faults = set_faults rs ++ filter_faults n long room

  pub all_least : least_of (refusal rs) (filter_faults n long room) ≡ least_of no_fault all_faults
  all_least = sym (least_append no_fault (set_faults rs) (filter_faults n long room))

  pub all_numbered : Numbered all_faults
  all_numbered = both_numbered (set_faults rs) (filter_faults n long room) (set_numbered rs) (filter_numbered n long room)

-- an answer has the number of a fault, or 0
pub answered_by : (n long : ℕ) (rs : RuleSet) (room k : ℕ) → (least_of (refusal rs) (filter_faults n long room)).code ≡ k → (0 ≡ k → ⊥)
    → (has k (all_faults n long rs room) ≡ true) × (least_of (refusal rs) (filter_faults n long room) ≡ first_of k (all_faults n long rs room))
answered_by n long rs room k e h =
    rw (all_least n long rs room)
    (least_first k no_fault (all_faults n long rs room) (all_numbered n long rs room) (rw (all_least n long rs room) at e) h)

-- ---- nothing is refused

no_both : (xs ys : List Fault) → xs ++ ys ≡ [] → (xs ≡ []) × (ys ≡ [])
no_both [] ys e = (refl, e)
no_both (x ∷ xs) ys e = absurd (let z : ◌≡◌ {A = ℕ} 0 1 = cc in omega arith)

no_unless : (t : Bool) (f : Fault) → unless t f ≡ [] → t ≡ true
unfolding unless
no_unless true f e = refl
no_unless false f e = cc

not_refused : (rs : RuleSet) → (refusal rs).code ≡ 0 → set_faults rs ≡ []
not_refused rs e = least_none (set_faults rs) (set_numbered rs) e

passed : (rs : RuleSet) (k : ℕ) (t : Bool) → (refusal rs).code ≡ 0 → has k (set_faults rs) ≡ not t → t ≡ true
passed rs k t e h = not-false t (sym h ∙ (unfold has in rw (not_refused rs e)))

-- the fault that is found is then none
pub none_refused : (rs : RuleSet) → (refusal rs).code ≡ 0 → refusal rs ≡ no_fault
unfolding least_of
none_refused rs e = rw (not_refused rs e)

pub ascending_entries : (rs : RuleSet) → (refusal rs).code ≡ 0 → ascending rs.entries ≡ true
ascending_entries rs e = passed rs 2 _ e (order_faults rs)

pub indices_taken_lem : (rs : RuleSet) → (refusal rs).code ≡ 0 → indices_taken rs ≡ true
unfolding one_of
indices_taken_lem rs e = passed rs 5 _ e (rule_faults_lem rs (rule_row index_row refl) refl refl)

-- a list that has none of its numbers is empty
none_of : (ks : List ℕ) (fs : List Fault) → Among ks fs → ((k : ℕ) → one_of ks k ≡ true → has k fs ≡ false) → fs ≡ []
unfolding has
none_of ks [] a h = refl
none_of ks (f ∷ fs) a h =
    absurd (let w = h f.code a.0 in let x = eq-eqb f.code f.code refl in let z : ◌≡◌ {A = ℕ} 0 1 = cc in omega arith)

lacking : (rs : RuleSet) (k m : ℕ) → has m (set_faults rs) ≡ false → eqb k m ≡ true → has k (set_faults rs) ≡ false
lacking rs k m h e = rw (eqb-true k m e) h

actions_differ : (rs : RuleSet) → (rs.mismatch ≡ rs.on_match → ⊥) → has 3 (set_faults rs) ≡ false
unfolding set_faults unless one_of
actions_differ rs h = rw (ne_eqb _ _ h) (entries_lack 3 refl rs.entries)

-- where no test fails, nothing is refused
pub nothing_wrong : (rs : RuleSet) → ascending rs.entries ≡ true → (rs.mismatch ≡ rs.on_match → ⊥) → rules_filled rs ≡ true → indices_taken rs ≡ true
    → widths_fit rs ≡ true → set_faults rs ≡ []
unfolding one_of
nothing_wrong rs up differ filled indexed whole =
    none_of set_codes (set_faults rs) (set_codes_lem rs) (λ k.
    either_true (eqb k 3) _ (lacking rs k 3 (actions_differ rs differ))
    (either_true (eqb k 2) _ (lacking rs k 2 (order_faults rs ∙ rw up))
    (either_true (eqb k 4) _ (lacking rs k 4 (rule_faults_lem rs empty_row refl refl ∙ rw filled))
    (either_true (eqb k 5) _ (lacking rs k 5 (rule_faults_lem rs (rule_row index_row refl) refl refl ∙ rw indexed))
    (either_true (eqb k 8) _ (lacking rs k 8 (rule_faults_lem rs (rule_row width_row refl) refl refl ∙ rw whole)) (λ q. cc))))))

-- ---- compiled

-- `rs` was compiled into `size rs` instructions
pub record Compiles (size : RuleSet → ℕ) (set : List ℕ) (room : ℕ) (r : Answer) (rs : RuleSet) : Type 0 where
  pub from : read set ≡ some rs
  pub nothing : (refusal rs).code ≡ 0
  pub short : size rs < too_many
  pub fits : 8 * size rs ≤ room
  pub said : r ≡ answer (size rs) no_fault

record Answered (n long : ℕ) (rs : RuleSet) (room : ℕ) : Type 0 where
  nothing : (refusal rs).code ≡ 0
  short : n < too_many
  fits : 8 * n ≤ room
  said : least_of (refusal rs) (filter_faults n long room) ≡ no_fault

answered : (n long : ℕ) (rs : RuleSet) (room : ℕ) → (least_of (refusal rs) (filter_faults n long room)).code ≡ 0 → Answered n long rs room
unfolding filter_faults
answered n long rs room e =
    let w = no_both (set_faults rs) (filter_faults n long room) (least_none (all_faults n long rs room) (all_numbered n long rs room) (rw (all_least n long rs room) at e)) in
    let v = no_both (unless (ltb n too_many) (fault 6 long nowhere nowhere)) _ w.1 in
    record {
      nothing = unfold least_of in rw w.0;
      short = ltb-true n too_many (no_unless (ltb n too_many) _ v.0);
      fits = leb-true (8 * n) room (no_unless (leb (8 * n) room) _ v.1);
      said = unfold least_of in rw (w.1, w.0);
    }

pub answered_none : (n long : ℕ) (rs : RuleSet) (room : ℕ) → (least_of (refusal rs) (filter_faults n long room)).code ≡ 0
    → least_of (refusal rs) (filter_faults n long room) ≡ no_fault
answered_none n long rs room e = (answered n long rs room e).said

-- no set is refused with a number of another kind
pub never_refused : (rs : RuleSet) (k : ℕ) → one_of set_codes k ≡ false → (0 ≡ k → ⊥) → (refusal rs).code ≡ k → ⊥
never_refused rs k other positive e =
    let w = (least_first k no_fault (set_faults rs) (set_numbered rs) e positive).0 in
    let v = set_lacks rs k other in
    let z : ◌≡◌ {A = ℕ} 0 1 = cc in omega arith

-- 1 is said of nothing that was read
pub never_one : (rs : RuleSet) → (refusal rs).code ≡ 1 → ⊥
unfolding one_of
never_one rs e = never_refused rs 1 refl (λ z. omega arith) e

pub answered_not_one : (n long : ℕ) (rs : RuleSet) (room : ℕ) → (least_of (refusal rs) (filter_faults n long room)).code ≡ 1 → ⊥
unfolding one_of
answered_not_one n long rs room e =
    let w = (answered_by n long rs room 1 e (λ z. omega arith)).0 in
    let v = rw (has_append 1 (set_faults rs) (filter_faults n long room), set_lacks rs 1 refl) at w in
    let u = lacks (6 ∷ 7 ∷ []) (filter_faults n long room) 1 refl (filter_codes n long room) in
    let z : ◌≡◌ {A = ℕ} 0 1 = cc in omega arith

abbrev code : Answer → ℕ
code r = r.code

by_read : (size long : RuleSet → ℕ) (set : List ℕ) (room : ℕ) (r : Answer) (x : Option RuleSet) → read set ≡ x
    → r ≡ answer_by size long x room → r.code ≡ 0 → (rs : RuleSet) × Compiles size set room r rs
unfolding answer
by_read size long set room r none e p z = absurd (let q = ap code p in omega arith)
by_read size long set room r (some rs) e p z =
    let a = answered (size rs) (long rs) rs room (sym (ap code p) ∙ z) in
    (rs, record { from = e; nothing = a.nothing; short = a.short; fits = a.fits; said = p ∙ ap (answer (size rs)) a.said })

pub compiles_by : (size long : RuleSet → ℕ) (set : List ℕ) (room : ℕ) (r : Answer) → r ≡ answer_by size long (read set) room → r.code ≡ 0
    → (rs : RuleSet) × Compiles size set room r rs
compiles_by size long set room r p z = by_read size long set room r (read set) refl p z
