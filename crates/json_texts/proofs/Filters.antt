-- A filter behind its name, and a whole turn: the set that is added to those in scratch. Assumes nothing.
use mathlib.Core.Path.{◌≡◌, refl, ap, sym, ◌∙◌}
use mathlib.Core.Bool.{Bool, true, false}
use mathlib.Core.List.{List, [], ◌∷◌, ◌++◌}
use mathlib.Core.Option.{Option, none, some}
use Prim.Native.Nat.{ℕ, ◌+◌, ◌-◌, ◌≤◌, ◌<◌}
use native.Mathlib.Omega.{arith}
use lib.ListN.{length, take, drop}
use Rattle.definitions.specs.Word.{bytes_of}
use Rattle.definitions.specs.Format.{then}
use Rattle.definitions.specs.JsonForm.{Line, Filter, filter_keys}
use Rattle.definitions.specs.CallNames.{Slot}
use Rattle.definitions.specs.Collected.{encode_named}
use Rattle.definitions.specs.JsonReader.{Got, got, stop, follow}
use Rattle.definitions.specs.FormReader.{Judges, Verdict, value_of, answered, asked, ending, judged, keyed_there, FilterPart, as_action, as_lines, filter_from, filter_reads, filter_there, equal_actions}
use Rattle.theorems.proofs.Tests.{some_same}
use Rattle.json_theorems.specs.Turns.{colon_there, more_there, Turned, turned, turned_there}
use Rattle.json_theorems.proofs.Tests.{none_not_some}
use Rattle.json_theorems.proofs.Faith.{stopped}
use Rattle.json_scan.specs.Scan.{Tells}
use Rattle.json_scan.proofs.Telling.{handed_on, made_into}
use Rattle.json_filters.specs.Filters.{Behind, SetWritten, Lent}
use Rattle.bpf.specs.Place.{place}
use Rattle.json_texts.specs.Named.{new_name, filter_behind, filter_turn, Written, NamePut, Added, Made}
use Rattle.json_texts.proofs.Telling.{knowing, followed}
use Rattle.json_texts.proofs.Parts.{front_kept, part_written, lengths_put}
use Rattle.json_texts.proofs.Named.{written_more}

pub lent_still : {text table before after : List ℕ} → Lent text table before → length after ≡ length before → Lent text table after
lent_still l e = record { short = l.short; good = l.good; room = rw e l.room }

-- ---- the filter has its name

pub got_same : {A : Type 0} {a b : A} {l m : List ℕ} → got a l ≡ got b m → a ≡ b
got_same e = cc

judged_from : {A B : Type 0} (P : B → Type 0) (g : A → Verdict B) (r : List ℕ → Got A) (l rest : List ℕ) (b : B) → judged g r l ≡ got b rest
    → ((a : A) (m : List ℕ) → answered (g a) l m ≡ got b rest → r l ≡ got a m → P b) → P b
unfolding judged
judged_from P g r l rest b e h = go (r l) refl e
  where
    go : (x : Got _) → r l ≡ x → follow x (λ a m. answered (g a) l m) ≡ got b rest → P b
    go (got a m) f k = h a m k f
    go (stop c m) f k = absurd (stopped k)

asked_same : {A : Type 0} (t : Bool) (code : ℕ) (a b : A) (l m rest : List ℕ) → answered (asked t code a) l m ≡ got b rest → a ≡ b
asked_same true code a b l m rest e = got_same e
asked_same false code a b l m rest e = absurd (stopped e)

ending_some : {B : Type 0} (o : Option B) (b : B) (l m rest : List ℕ) → answered (ending o) l m ≡ got b rest → o ≡ some b
ending_some none b l m rest e = absurd (stopped e)
ending_some (some a) b l m rest e = ap some (got_same e)

from_name : (name : List ℕ) (s : ℕ → Option (Option FilterPart)) (f : Filter) → filter_from name s ≡ some f → f.name ≡ name
from_name name s f e = go (then (s 0) as_action) (then (s 1) as_action) (then (s 2) as_lines) e
  where
    go : (a b : Option ℕ) (c : Option (List Line)) → then a (λ d. then b (λ m. then c (λ ls. some (record { name = name; mismatch = d; on_match = m; lines = ls })))) ≡ some f → f.name ≡ name
    go none b c h = absurd (none_not_some h)
    go (some d) none c h = absurd (none_not_some h)
    go (some d) (some m) none h = absurd (none_not_some h)
    go (some d) (some m) (some ls) h = sym (ap (λ (g : Filter). g.name) (some_same h))

pub has_name : (j : Judges) (name l rest : List ℕ) (f : Filter) → filter_there j name l ≡ got f rest → f.name ≡ name
unfolding filter_there keyed_there
has_name j name l rest f e =
    judged_from (λ (x : Filter). x.name ≡ name) (λ x. asked (j.differ x.mismatch x.on_match) equal_actions x) (keyed_there filter_keys (filter_reads j) (filter_from name)) l rest f e
    (λ x m a r. rw (← asked_same (j.differ x.mismatch x.on_match) equal_actions x f l m rest a)
    (judged_from (λ (y : Filter). y.name ≡ name) _ _ l m x r (λ ts n b q. from_name name (λ (g : ℕ). some (value_of g ts)) x (ending_some _ x l n m b))))

-- ---- behind the name

module _ {text : List ℕ} {at behind code : ℕ} {Is : ℕ → Type 0} (j : Judges) (colon : Tells text at Is (colon_there (drop at text)) code behind) where
  pub colon_stops : {Is' : Filter → Type 0} → (code ≡ 0 → ⊥) → (name : List ℕ) → Tells text at Is' (filter_behind j name (drop at text)) code behind
  unfolding filter_behind
  colon_stops h name = handed_on _ colon h

  pub filter_told : {Is' : Filter → Type 0} {code' place : ℕ} → code ≡ 0 → (name : List ℕ) → Tells text behind Is' (filter_there j name (drop behind text)) code' place
      → Tells text at Is' (filter_behind j name (drop at text)) code' place
  unfolding filter_behind
  filter_told e name t = followed (λ z rest. filter_there j name rest) colon e (λ z v. t)

-- the lengths put in front of the name
pub added : {slots : List Slot} {architecture end count spot at : ℕ} {before middle between after : List ℕ} {f : Filter} (long : ℕ) → SetWritten slots architecture (end + 8 + count) before middle spot at f
    → at ≤ length before → long ≡ spot - (end + 8 + count) → between ≡ place middle end (bytes_of 4 count) → after ≡ place between (end + 4) (bytes_of 4 long)
    → Added slots architecture end count before after spot at f
added {end = end} {count} {spot} {before = before} {middle} {between} {after} long s inside l d e =
    let h = s.short in
    let b = s.behind in
    let p = b.spot in
    record {
      known = s.known;
      is_known = s.named;
      set = s.set;
      made = s.made;
      spelled = ap (λ (x : List ℕ). take spot x) (e ∙ ap (λ (x : List ℕ). place x (end + 4) (bytes_of 4 long)) d) ∙ ap (λ (n : ℕ). take spot (place (place middle end (bytes_of 4 count)) (end + 4) (bytes_of 4 n))) (omega arith) ∙ lengths_put end count b (omega arith);
      spot = p;
      short = h;
    }

-- ---- a turn

behind_name : (j : Judges) (k l rest : List ℕ) (f : Filter) → filter_behind j k l ≡ got f rest → f.name ≡ k
unfolding filter_behind
behind_name j k l rest f e = go (colon_there l) e
  where
    go : (g : Got ℕ) → follow g (λ z behind. filter_there j k behind) ≡ got f rest → f.name ≡ k
    go (got z m) h = has_name j k m rest f h
    go (stop c m) h = absurd (stopped h)

-- a set added behind a name that stood there is a named set
spelled_as : {slots : List Slot} {architecture end count spot at : ℕ} {before middle after k : List ℕ} {f : Filter} → Behind (end + 8) before middle k (end + 8 + count) → end + 8 + count ≤ length before
    → f.name ≡ k → (v : Added slots architecture end count middle after spot at f) → take spot after ≡ take end before ++ encode_named (record { name = f.name; set = v.set })
unfolding encode_named
spelled_as {end = end} {count} {k = k} b room n v =
    let s = b.spot in
    let c : count ≡ length k = omega arith in
    v.spelled ∙ rw (front_kept b room end (omega arith), c, part_written b room, n) refl

module _ {text : List ℕ} {at past code : ℕ} (j : Judges) (fs : List Filter) where
  pub name_fails : {Is₀ : List ℕ → Type 0} → Tells text at Is₀ (new_name fs (drop at text)) code past
      → {Is : Turned (List Filter) → Type 0} → (code ≡ 0 → ⊥) → Tells text at Is (filter_turn j fs (drop at text)) code past
  unfolding filter_turn
  name_fails name h = handed_on _ name h

  module _ {before middle : List ℕ} {end count : ℕ} (name : Tells text at (NamePut before middle end count) (new_name fs (drop at text)) code past) (e : code ≡ 0) {code' place' : ℕ} where
    pub filter_fails : {Is₀ : Filter → Type 0} → ((k : List ℕ) → Tells text past Is₀ (filter_behind j k (drop past text)) code' place')
        → {Is : Turned (List Filter) → Type 0} → (code' ≡ 0 → ⊥) → Tells text at Is (filter_turn j fs (drop at text)) code' place'
    unfolding filter_turn
    filter_fails filter h = followed _ name e (λ k v. handed_on _ (filter k) h)

    module _ {slots : List Slot} {architecture : ℕ} {after : List ℕ} {spot : ℕ}
        (filter : (k : List ℕ) → Tells text past (Added slots architecture end count middle after spot place') (filter_behind j k (drop past text)) code' place') (d : code' ≡ 0)
        {code'' place'' : ℕ} where
      pub more_fails : {Is₀ : Bool → Type 0} → Tells text place' Is₀ (more_there 0x7d (drop place' text)) code'' place''
          → {Is : Turned (List Filter) → Type 0} → (code'' ≡ 0 → ⊥) → Tells text at Is (filter_turn j fs (drop at text)) code'' place''
      unfolding filter_turn turned_there
      more_fails m h = followed _ name e (λ k b. followed _ (filter k) d (λ f v. handed_on _ m h))

      pub turn_made : {many : ℕ} {more : Bool} → Written slots architecture fs many (take end before) → end + 8 + count ≤ length before
          → Tells text place' (λ b. more ≡ b) (more_there 0x7d (drop place' text)) code'' place''
          → Tells text at (Made slots architecture many end spot place'' after more) (filter_turn j fs (drop at text)) code'' place''
      unfolding filter_turn turned_there
      turn_made {more = more} w room m =
          followed _ name e (λ k b. followed _ (knowing (filter k) (λ f rest g o. behind_name j k (drop past text) rest f g)) d (λ f v.
          made_into (λ x. turned (fs ++ (f ∷ [])) x) (knowing {Is' = λ x. place' < place''} m (λ x rest g o. o)) (λ x h.
          let s = v.0.spot in
          let short = v.0.short in
          record {
            same_more = h.0;
            written = written_more f v.0.set w (some_same (sym w.is_known ∙ v.0.is_known)) v.0.made (spelled_as b.behind room v.1 v.0);
            longer = omega arith;
            less = omega (arith, h.1);
          })))
