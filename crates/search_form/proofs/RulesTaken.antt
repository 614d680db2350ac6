-- TAKEN, of the form that searches rules too: the kernel's checks pass where it has at most 4,096 instructions.
use mathlib.Core.Path.{◌≡◌, refl}
use mathlib.Core.Bool.{true, false, ◌&&◌}
use mathlib.Core.List.{List, [], ◌∷◌, ◌++◌}
use Prim.Native.Nat.{ℕ, ◌^◌, ◌≤◌, ◌<◌}
use native.Mathlib.Omega.{arith}
use lib.Dec.{eqb, leb, ltb}
use lib.ListN.{length, length-append}
use Rattle.definitions.specs.declared.Operator.{Operator}
use Rattle.definitions.specs.declared.Operator.TheVariants.{Eq, Ge, Gt, Le, Lt, MaskedEq, Ne}
use Rattle.definitions.specs.declared.Width.{Width}
use Rattle.definitions.specs.declared.Width.TheVariants.{Dword, Qword}
use Rattle.definitions.specs.declared.Condition.{Condition}
use Rattle.definitions.specs.declared.Instruction.{Instruction}
use Rattle.definitions.specs.Machine.{codes, kind_in, kind_of}
use Rattle.definitions.specs.RuleSet.{Rule, Entry, RuleSet}
use Rattle.definitions.specs.Format.{Each, InRange, MaskInRange}
use Rattle.definitions.specs.Answer.{indices_taken}
use Rattle.definitions.specs.Emitted.{load, return, low_at, high_at, rule_bodies}
use Rattle.theorems.specs.Shape.{LandsAs, Shaped}
use Rattle.theorems.proofs.Tests.{both_true, each_both}
use Rattle.search_form.proofs.RuleCases.{no, Fits, fits_none, fits_first, index_taken_lem, rests_fit, cases_rest, others_each, alikes_fit, alikes_each}
use Rattle.theorems.proofs.Taken.{Sound, ends_cons, ends_append, return_last, Good, GoodEntry, action_small, good_entries, headed_sound, sound_taken}
use Rattle.definitions.specs.SearchForm.{grow, Form}
use Rattle.search_form.specs.Rules.{is_equality, same_width, Look, word_at, half, looks_at, left_of, only, joining, add_case, by_first, cases, Laid, lay_entry, lay, grown, fronted, mismatching, one_by_one, searched, pattern, alikes, others, by_words, ruled, rules_most, shorter_of, entry_form, bottom, rules_planted, rules_form}
use Rattle.search_form.specs.Statements.{RulesTaken}
use Rattle.search_form.proofs.Cases.{cond_case}
use Rattle.search_form.proofs.Taken.{Firm, Stands, FineTo, FineSpan, return_firm, plant_laid, tree_fine, spans_more, plain_fine, rules_sound}

-- ---- what is left of rules is in range, as they are

half_small : (w : Width) (v : ℕ) → v < 2 ^ 64 → half w v < 2 ^ 32
unfolding half
half_small Dword v h = omega arith
half_small Qword v h = omega arith

mask_none : (o : Operator) (x : ℕ) → is_equality o ≡ true → MaskInRange o x → x ≡ 0
unfolding is_equality
mask_none Eq x e h = h
mask_none Ge x e h = h
mask_none Gt x e h = h
mask_none Le x e h = h
mask_none Lt x e h = h
mask_none MaskedEq x e h = no e
mask_none Ne x e h = h

looks_equal : (k : Look) (q : Condition) → looks_at k q ≡ true → is_equality q.operator ≡ true
unfolding looks_at
looks_equal k q h =
    let x = both_true (eqb q.index k.index) (same_width k.width q.width && is_equality q.operator) h in
    (both_true (same_width k.width q.width) (is_equality q.operator) x.1).1

left_good : (k : Look) (q : Condition) (qs : Rule) → looks_at k q ≡ true → Each Good (q ∷ qs) → Each Good (left_of k.width q ++ qs)
left_good k q qs y h = go k.width
  where
    go : (w : Width) → Each Good (left_of w q ++ qs)
    go Dword = unfold left_of in h.1
    go Qword = unfold left_of in (
      (record { index = h.0.0.index; value = h.0.0.value; mask = mask_none q.operator q.mask (looks_equal k q y) h.0.0.mask }, h.0.1),
      h.1,
    )

only_good : (r : Rule) → Each Good r → Each (Each Good) (only r)
unfolding only
only_good [] h = tt
only_good (q ∷ qs) h = (h, tt)

joining_good : (r : Rule) (rs : List Rule) → Each Good r → Each (Each Good) rs → Each (Each Good) (joining r rs)
unfolding joining
joining_good [] rs h g = tt
joining_good (q ∷ qs) [] h g = tt
joining_good (q ∷ qs) (r ∷ rs) h g = (h, g)

add_good : (v : ℕ) (r : Rule) (es : List Entry) → v < 2 ^ 32 → Each Good r → Each GoodEntry es → Each GoodEntry (add_case v r es)
unfolding add_case
add_good v r [] l h g = ((l, only_good r h), tt)
add_good v r (e ∷ es) l h g =
    cond_case (Each GoodEntry) (ltb v e.number) _ _ (λ y. ((l, only_good r h), g))
    (λ n. cond_case (Each GoodEntry) (eqb v e.number) _ _ (λ y. ((l, joining_good r e.rules h g.0.1), g.1)) (λ n. (g.0, add_good v r es l h g.1)))

cases_good : (k : Look) (ks : List Look) (rs : List Rule) → Each (Fits (k ∷ ks)) rs → Each (Each Good) rs → Each GoodEntry (cases k.width rs)
unfolding cases by_first
cases_good k ks [] f g = tt
cases_good k ks ([] ∷ rs) f g = absurd (omega (arith, f.0.some))
cases_good k ks ((q ∷ qs) ∷ rs) f g =
    add_good (half k.width q.value) (left_of k.width q ++ qs) (cases k.width rs) (half_small k.width q.value g.0.0.0.value)
    (left_good k q qs (fits_first k ks q qs f.0).0 g.0) (cases_good k ks rs f.1 g.1)

-- rules that look at just some words, in range
abbrev Neat : List Look → Rule → Type 0
Neat ks r = Fits ks r × Each Good r

neat_fits : (ks : List Look) (rs : List Rule) → Each (Neat ks) rs → Each (Fits ks) rs
neat_fits ks rs g = each_both (λ r a b. a.0) rs g g

cases_neat : (k : Look) (ks : List Look) (rs : List Rule) → Each (Neat (k ∷ ks)) rs
    → Each (λ (e : Entry). (e.number < 2 ^ 32) × Each (Neat ks) e.rules) (cases k.width rs)
cases_neat k ks rs g =
    let f = neat_fits (k ∷ ks) rs g in
    each_both (λ e a b. (a.0, each_both (λ r x y. (x, y)) e.rules b a.1)) (cases k.width rs)
    (cases_good k ks rs f (each_both (λ r a b. a.1) rs g g)) (rests_fit ks (length rs) (cases k.width rs) (cases_rest k ks rs f))

alikes_neat : (k : Look) (ks : List Look) (rs : List Rule) → Each (Each Good) rs → Each (Neat (k ∷ ks)) (alikes (k ∷ ks) rs)
alikes_neat k ks rs g =
    each_both (λ r a b. (a, b)) (alikes (k ∷ ks) rs) (alikes_fit k ks rs (each_both (λ r a b. each_both (λ q x y. x.1) r a b) rs g g)) (alikes_each (Each Good) (k ∷ ks) rs g)

-- ---- code in front

load_firm : (w : Width) (i : ℕ) (p : List Instruction) → i ≤ 5 → Firm p → Firm (load (word_at w i) ∷ p)
unfolding word_at Shaped LandsAs kind_of kind_in codes
load_firm Dword i p h f = record {
  shaped = λ l. ((omega arith, omega arith), (omega arith, omega arith, omega arith, omega arith), f.shaped (omega arith));
  ends = ends_cons (load (low_at i)) p f.ends;
}
load_firm Qword i p h f = record {
  shaped = λ l. ((omega arith, omega arith), (omega arith, omega arith, omega arith, omega arith), f.shaped (omega arith));
  ends = ends_cons (load (high_at i)) p f.ends;
}

-- g stands in front of f, and is entered inside
pub record Stood (f g : Form) : Type 0 where
  pub stands : Stands g
  pub pos : 1 ≤ g.at
  pub inside : g.at ≤ length g.code
  pub grew : length f.code ≤ length g.code

-- and there is more of it
pub record Safe (f g : Form) : Type 0 where
  pub stands : Stands g
  pub pos : 1 ≤ g.at
  pub inside : g.at ≤ length g.code
  pub grew : length f.code < length g.code

abbrev pub SafePut : (Rule → Type 0) → (List Rule → Form → Form) → Type 0
SafePut P put = (rs : List Rule) (f : Form) → Each P rs → 1 ≤ length rs → Stands f → 1 ≤ length f.code → Safe f (put rs f)

pub record SafeLay (f : Form) (l : Laid) : Type 0 where
  pub stands : Stands l.form
  pub grew : length f.code ≤ length l.form.code
  pub fine : Each (FineSpan (length l.form.code)) l.spans

lay_entry_safe : (P : Rule → Type 0) (put : List Rule → Form → Form) → SafePut P put → (n : ℕ) (rs : List Rule) (f : Form) (l : Laid) → n < 2 ^ 32 → Each P rs → 1 ≤ length f.code
    → SafeLay f l → SafeLay f (lay_entry put n rs l)
unfolding lay_entry FineTo
lay_entry_safe P put a n [] f l h g o i = record { stands = i.stands; grew = i.grew; fine = plain_fine (length l.form.code) n l.spans h i.fine }
lay_entry_safe P put a n (r ∷ rs) f l h g o i =
    let x = a (r ∷ rs) l.form g (omega arith) i.stands (omega (arith, i.grew)) in
    record {
      stands = x.stands;
      grew = omega (arith, i.grew, x.grew);
      fine = (record { first = h; last = h; to = (x.pos, x.inside) }, spans_more (length l.form.code) (length (put (r ∷ rs) l.form).code) l.spans (omega (arith, x.grew)) i.fine);
    }

lay_safe : (P : Rule → Type 0) (put : List Rule → Form → Form) → SafePut P put → (es : List Entry) (f : Form) → Each (λ (e : Entry). (e.number < 2 ^ 32) × Each P e.rules) es → Stands f → 1 ≤ length f.code → SafeLay f (lay put es f)
unfolding lay
lay_safe P put a [] f g s o = record { stands = s; grew = omega arith; fine = tt }
lay_safe P put a (e ∷ es) f g s o = lay_entry_safe P put a e.number e.rules f (lay put es f) g.0.0 g.0.1 o (lay_safe P put a es f g.1 s o)

module _ (m d : ℕ) (hm : m < 2 ^ 32) (hd : d < 2 ^ 32) where
  rules_firm : (qss : List Rule) (p : List Instruction) → Each (Each Good) qss → 2 ≤ length p → Firm p → Firm (rule_bodies m qss ++ p)
  rules_firm qss p g o f = record {
    shaped = λ l. (rules_sound m d hm hd qss p g
        (record { shaped = f.shaped (omega (arith, length-append (rule_bodies m qss) p)); ends = f.ends; long = o })).shaped;
    ends = ends_append (rule_bodies m qss) p f.ends;
  }

  linear_safe : SafePut (Each Good) (one_by_one m d)
  unfolding one_by_one fronted mismatching
  linear_safe qss f g any s o =
      let y = length-append (rule_bodies m qss) (return d ∷ f.code) in
      let u = s.match_return in
      record {
        stands = record {
          firm = rules_firm qss (return d ∷ f.code) g (omega arith) (return_firm d f.code hd s.firm);
          match_return = omega arith;
          mismatch_return = omega arith;
        };
        pos = omega arith;
        inside = omega arith;
        grew = omega arith;
      }

  grown_safe : (f : Form) (l : Laid) → SafeLay f l → Stood f (grown m d l)
  unfolding grown
  grown_safe f l i =
      let x = plant_laid m d hm hd (grow (length l.spans) false 0 0 l.spans) l.form (tree_fine (length l.form.code) l.spans i.fine) i.stands in
      record { stands = x.stands; pos = x.near.pos; inside = x.near.inside; grew = omega (arith, i.grew, x.grew) }

  searched_safe : (ks : List Look) → SafePut (Neat ks) (searched ks m d)
  unfolding searched fronted
  searched_safe [] [] f g any s o = absurd (omega arith)
  searched_safe [] (r ∷ qss) f g any s o = absurd (fits_none r g.0.0)
  searched_safe (k ∷ ks) qss f g any s o =
      let x = grown_safe f (lay (searched ks m d) (cases k.width qss) f) (lay_safe (Neat ks) (searched ks m d) (searched_safe ks) (cases k.width qss) f (cases_neat k ks qss g) s o) in
      let h : Form = grown m d (lay (searched ks m d) (cases k.width qss) f) in
      let u = x.stands.match_return in
      let v = x.stands.mismatch_return in
      record {
        stands = record { firm = load_firm k.width k.index h.code (index_taken_lem k ks qss (neat_fits (k ∷ ks) qss g) any) x.stands.firm; match_return = omega arith; mismatch_return = omega arith };
        pos = omega arith;
        inside = omega arith;
        grew = omega (arith, x.grew);
      }

  searched_any : (ks : List Look) (qss all : List Rule) (f : Form) → alikes ks all ≡ qss → Each (Each Good) all → 1 ≤ length qss → Stands f → 1 ≤ length f.code → Safe f (searched ks m d qss f)
  searched_any [] qss all f q g any s o = unfold searched in linear_safe qss f (rw q at (alikes_each (Each Good) [] all g)) any s o
  searched_any (k ∷ ks) qss all f q g any s o = searched_safe (k ∷ ks) qss f (rw q at (alikes_neat k ks all g)) any s o

  words_safe : (ks : List Look) (qss : List Rule) (f : Form) → Each (Each Good) qss → 1 ≤ length qss → Stands f → 1 ≤ length f.code → (chosen : List Rule) → alikes ks qss ≡ chosen
      → Safe f (by_words m d ks chosen (others ks qss) qss f)
  unfolding by_words fronted
  words_safe ks qss f g any s o [] q = linear_safe qss f g any s o
  words_safe ks qss f g any s o (a ∷ rest) q =
      let x = searched_any ks (a ∷ rest) qss f q g (omega arith) s o in
      let h : Form = searched ks m d (a ∷ rest) f in
      let y = length-append (rule_bodies m (others ks qss)) h.code in
      let u = x.stands.match_return in
      let v = x.stands.mismatch_return in
      record {
        stands = record {
          firm = rules_firm (others ks qss) h.code (others_each (Each Good) ks qss g) (omega (arith, x.grew)) x.stands.firm;
          match_return = omega arith;
          mismatch_return = omega arith;
        };
        pos = omega (arith, x.pos, x.inside);
        inside = omega arith;
        grew = omega (arith, x.grew);
      }

  entry_safe : SafePut (Each Good) (entry_form m d)
  unfolding entry_form shorter_of ruled
  entry_safe qss f g any s o =
      cond_case (Safe f) (leb (length qss) rules_most) _ _
      (λ p. cond_case (Safe f) (leb (length (ruled m d qss f).code) (length (one_by_one m d qss f).code)) _ _
      (λ q. words_safe (pattern qss) qss f g any s o (alikes (pattern qss) qss) refl) (λ q. linear_safe qss f g any s o))
      (λ p. linear_safe qss f g any s o)

  bottom_stands : Stands (bottom d)
  unfolding bottom
  bottom_stands =
      let x = return_last d hd in
      record { firm = record { shaped = λ l. x.shaped; ends = x.ends }; match_return = omega arith; mismatch_return = omega arith }

  bottom_some : 1 ≤ length (bottom d).code
  unfolding bottom
  bottom_some = omega arith

  planted_sound : (es : List Entry) → Each GoodEntry es → length (rules_planted m d es).code < 2 ^ 32 → Sound 0 (rules_planted m d es).code
  unfolding rules_planted
  planted_sound es s l =
      let x = grown_safe (bottom d) (lay (entry_form m d) es (bottom d)) (lay_safe (Each Good) (entry_form m d) entry_safe es (bottom d) s bottom_stands bottom_some) in
      record { shaped = x.stands.firm.shaped l; ends = x.stands.firm.ends; long = omega (arith, x.pos, x.inside) }

pub rules_form_sound : (rs : RuleSet) → InRange rs → indices_taken rs ≡ true → length (rules_form rs) ≤ 4096 → Sound 0 (rules_form rs)
unfolding rules_form
rules_form_sound rs r t l =
    let p : List Instruction = (rules_planted rs.on_match rs.mismatch rs.entries).code in
    let n = simp length-append at l in
    headed_sound rs p
    (planted_sound rs.on_match rs.mismatch (action_small rs.on_match r.on_match) (action_small rs.mismatch r.mismatch) rs.entries (good_entries rs r t) (omega arith))

pub rules_form_taken : RulesTaken
rules_form_taken rs r t l = sound_taken (rules_form rs) (rules_form_sound rs r t l) l
