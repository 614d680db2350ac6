-- What holds of readers of strings and numbers, and stays so however readers are made of readers, holds of the form's reader. Said of any property,
-- so that the form is gone through once. Assumes nothing.
use mathlib.Core.Path.{◌≡◌, refl}
use mathlib.Core.Bool.{Bool, true, false, cond, not, ◌&&◌, ◌||◌}
use mathlib.Core.List.{List, [], ◌∷◌, ◌++◌}
use mathlib.Core.Option.{Option, none, some}
use Prim.Native.Nat.{ℕ, zero, suc, ◌-◌, ◌^◌}
use lib.Dec.{eqb, leb}
use Rattle.definitions.specs.RuleSet.{one_of}
use Rattle.definitions.specs.Format.{then, check}
use Rattle.definitions.specs.Json.{all, is_digit}
use Rattle.definitions.specs.JsonForm.{same, decimal, field_of, Key, condition_keys, line_keys, filter_keys, named, Filter}
use Rattle.definitions.specs.JsonReader.{Got, not_json}
use Rattle.definitions.specs.FormReader.{not_of_form, string_there, number_there, object_there, array_there, behind_key, equal_actions, empty_args, wrong_index, too_wide, given_twice, unknown_call, Judges, Verdict, fine, begun, closing, judged, asked, made, ending, put_in, natural_there, word_there, list_there, null_or, either_there, Held, held, or_refused, one_judge, one_step, one_end, one_there, Typed, typed, has_typed, value_of, field_judge, field_reader, keyed_there, action_there, operator_there, condition_from, condition_reads, condition_there, line_from, line_reads, line_there, filter_from, filter_reads, filter_there, filters_there}

-- the numbers of faults in a text: 10, and those by which the form and its judges refuse
abbrev pub is_refusal : ℕ → Bool
is_refusal = one_of (3 ∷ 4 ∷ 5 ∷ 8 ∷ 11 ∷ 12 ∷ 13 ∷ [])

abbrev pub is_fault : ℕ → Bool
is_fault k = eqb k not_json || is_refusal k

pub eleven_refusal : is_refusal not_of_form ≡ true
unfolding one_of
eleven_refusal = refl

-- a number that judges: none, or that of a refusal
abbrev pub Judged : ℕ → Type 0
Judged k = (k ≡ 0 → ⊥) → is_refusal k ≡ true

-- a verdict that refuses by such a number
abbrev pub Fair : {B : Type 0} → Verdict B → Type 0
Fair (fine b) = Unit {0}
Fair (begun k) = is_refusal k ≡ true
Fair (closing k) = is_refusal k ≡ true

twice_judged : (t : Bool) → Judged (cond t given_twice 0)
unfolding one_of
twice_judged true = λ n. refl
twice_judged false = λ n. absurd (n refl)

-- a property of readers that stays, however readers are made of readers
pub record Closed (P : (A : Type 0) → (List ℕ → Got A) → Type 0) : Type 1 where
  pub string : P (List ℕ) string_there
  pub number : P (List ℕ) number_there
  pub judge : {A B : Type 0} (r : List ℕ → Got A) → P A r → (g : A → Verdict B) → ((a : A) → Fair (g a)) → P B (judged g r)
  pub put : {A B : Type 0} (r : List ℕ → Got A) → P A r → (add : A → B) → P B (put_in add r)
  pub refused : {A : Type 0} → P A (behind_key none)
  pub object : {Q : Type 0} (judge : Q → List ℕ → ℕ) → ((p : Q) (k : List ℕ) → Judged (judge p k)) → (step : Q → List ℕ → List ℕ → Got Q)
      → ((p : Q) (k : List ℕ) → P Q (step p k)) → (p : Q) → P Q (object_there judge step p)
  pub array : {Q : Type 0} (step : Q → List ℕ → Got Q) → ((p : Q) → P Q (step p)) → (p : Q) → P Q (array_there step p)
  pub or_null : {A : Type 0} (r : List ℕ → Got A) → P A r → P (Option A) (null_or r)
  pub either : {A : Type 0} (r s : List ℕ → Got A) → P A r → P A s → P A (either_there r s)

module _ (P : (A : Type 0) → (List ℕ → Got A) → Type 0) (closed : Closed P) where
  asked_closed : {A : Type 0} (r : List ℕ → Got A) → P _ r → (t : A → Bool) (k : ℕ) → is_refusal k ≡ true → P _ (judged (λ a. asked (t a) k a) r)
  asked_closed {A} r s t k f = closed.judge r s (λ a. asked (t a) k a) (λ a. by (t a) a)
    where
      by : (b : Bool) (a : A) → Fair (asked b k a)
      by true a = tt
      by false a = f

  made_closed : {A B : Type 0} (r : List ℕ → Got A) → P _ r → (g : A → Option B) → P _ (judged (λ a. made (g a)) r)
  made_closed {A} {B} r s g = closed.judge r s (λ a. made (g a)) (λ a. by (g a))
    where
      by : (o : Option B) → Fair (made o)
      by none = eleven_refusal
      by (some b) = tt

  ending_closed : {A B : Type 0} (r : List ℕ → Got A) → P _ r → (g : A → Option B) → P _ (judged (λ a. ending (g a)) r)
  ending_closed {A} {B} r s g = closed.judge r s (λ a. ending (g a)) (λ a. by (g a))
    where
      by : (o : Option B) → Fair (ending o)
      by none = eleven_refusal
      by (some b) = tt

  pub natural_closed : (most : ℕ) → P _ (natural_there most)
  unfolding natural_there
  natural_closed most = made_closed number_there closed.number (λ t. check (all is_digit t && leb (decimal 0 t) most) (some (decimal 0 t)))

  pub word_closed : {A : Type 0} (g : List ℕ → Option A) → P _ (word_there g)
  unfolding word_there
  word_closed g = made_closed string_there closed.string g

  pub list_closed : {A : Type 0} (r : List ℕ → Got A) → P _ r → P _ (list_there r)
  unfolding list_there
  list_closed r s = closed.array _ (λ xs. closed.put r s (λ a. xs ++ (a ∷ []))) []

  pub one_closed : {A B : Type 0} (known : List ℕ → Option A) (reads : A → List ℕ → Got B) → ((w : A) → P _ (reads w)) → P _ (one_there known reads)
  unfolding one_there
  one_closed {A} {B} known reads s = ending_closed _ (closed.object (one_judge known) ok (one_step known reads) step none) one_end
    where
      ok : (p : Option (Held B)) (k : List ℕ) → Judged (one_judge known p k)
      ok none k = by (known k)
        where
          by : (o : Option A) → Judged (or_refused o)
          by none = λ n. eleven_refusal
          by (some a) = λ n. absurd (n refl)
      ok (some h) k = by (same h.key k)
        where
          by : (t : Bool) → Judged (cond t given_twice not_of_form)
          by true = twice_judged true
          by false = λ n. eleven_refusal

      step : (p : Option (Held B)) (k : List ℕ) → P _ (one_step known reads p k)
      step (some h) k = closed.refused
      step none k = by (known k)
        where
          by : (o : Option A) → P _ (behind_key (then o (λ w. some (put_in (λ b. some (held k b)) (reads w)))))
          by none = closed.refused
          by (some w) = closed.put (reads w) (s w) (λ b. some (held k b))

  pub keyed_closed : {A B : Type 0} (keys : List Key) (reads : ℕ → List ℕ → Got A) (whole : (ℕ → Option (Option A)) → Option B) → ((f : ℕ) → P _ (reads f)) → P _ (keyed_there keys reads whole)
  unfolding keyed_there
  keyed_closed {A} keys reads whole s =
      ending_closed _ (closed.object (λ ts k. field_judge ts (field_of keys k)) (λ ts k. ok ts (field_of keys k)) (λ ts k. behind_key (field_reader reads ts (field_of keys k))) (λ ts k. step ts (field_of keys k)) []) (λ ts. whole (λ f. some (value_of f ts)))
    where
      ok : (ts : List (Typed A)) (o : Option ℕ) → Judged (field_judge ts o)
      ok ts none = λ n. eleven_refusal
      ok ts (some f) = twice_judged (has_typed f ts)

      step : (ts : List (Typed A)) (o : Option ℕ) → P _ (behind_key (field_reader reads ts o))
      step ts none = closed.refused
      step ts (some f) = by (has_typed f ts)
        where
          by : (t : Bool) → P _ (behind_key (check (not t) (some (put_in (λ a. typed f a ∷ ts) (reads f)))))
          by true = closed.refused
          by false = closed.put (reads f) (s f) (λ a. typed f a ∷ ts)

  pub action_closed : P _ action_there
  unfolding action_there
  action_closed = closed.either _ _ (word_closed _) (one_closed _ _ (λ w. closed.put _ (natural_closed (2 ^ 32 - 1)) _))

  pub operator_closed : P _ operator_there
  unfolding operator_there
  operator_closed = closed.either _ _ (word_closed _) (one_closed _ _ (λ w. closed.put _ (natural_closed (2 ^ 64 - 1)) _))

  pub comment_closed : P _ (null_or string_there)
  comment_closed = closed.or_null string_there closed.string

  module _ (j : Judges) where
    condition_reads_closed : (f : ℕ) → P _ (condition_reads j f)
    unfolding one_of
    condition_reads_closed zero = closed.put _ (asked_closed _ (natural_closed 255) j.index wrong_index refl) _
    condition_reads_closed (suc zero) = closed.put _ (word_closed _) _
    condition_reads_closed (suc (suc zero)) = closed.put _ operator_closed _
    condition_reads_closed (suc (suc (suc zero))) = closed.put _ (natural_closed (2 ^ 64 - 1)) _
    condition_reads_closed (suc (suc (suc (suc zero)))) = closed.put _ comment_closed _
    condition_reads_closed (suc (suc (suc (suc (suc n))))) = closed.refused

    pub condition_closed : P _ (condition_there j)
    unfolding condition_there one_of
    condition_closed = asked_closed _ (keyed_closed condition_keys (condition_reads j) condition_from condition_reads_closed) j.fits too_wide refl

    line_reads_closed : (f : ℕ) → P _ (line_reads j f)
    unfolding one_of
    line_reads_closed zero = closed.put _ (asked_closed _ closed.string j.known unknown_call refl) _
    line_reads_closed (suc zero) = closed.put _ (closed.or_null _ (asked_closed _ (list_closed (condition_there j) condition_closed) j.filled empty_args refl)) _
    line_reads_closed (suc (suc zero)) = closed.put _ comment_closed _
    line_reads_closed (suc (suc (suc n))) = closed.refused

    pub line_closed : P _ (line_there j)
    unfolding line_there
    line_closed = keyed_closed line_keys (line_reads j) line_from line_reads_closed

    filter_reads_closed : (f : ℕ) → P _ (filter_reads j f)
    filter_reads_closed zero = closed.put _ action_closed _
    filter_reads_closed (suc zero) = closed.put _ action_closed _
    filter_reads_closed (suc (suc zero)) = closed.put _ (list_closed (line_there j) line_closed) _
    filter_reads_closed (suc (suc (suc n))) = closed.refused

    pub filter_closed : (name : List ℕ) → P _ (filter_there j name)
    unfolding filter_there one_of
    filter_closed name = asked_closed _ (keyed_closed filter_keys (filter_reads j) (filter_from name) filter_reads_closed) (λ f. j.differ f.mismatch f.on_match) equal_actions refl

    pub filters_closed : P _ (filters_there j)
    unfolding filters_there
    filters_closed =
        closed.object (λ fs k. cond (named k fs) given_twice 0) (λ fs k. twice_judged (named k fs)) (λ fs k. behind_key (check (not (named k fs)) (some (put_in (λ f. fs ++ (f ∷ [])) (filter_there j k)))))
        (λ fs k. step fs k (named k fs)) []
      where
        step : (fs : List Filter) (k : List ℕ) (t : Bool) → P _ (behind_key (check (not t) (some (put_in (λ f. fs ++ (f ∷ [])) (filter_there j k)))))
        step fs k true = closed.refused
        step fs k false = closed.put _ (filter_closed k) (λ f. fs ++ (f ∷ []))
