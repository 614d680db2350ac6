-- Statement 2, front: the reader that the code follows gives filters for a text exactly if the text has a value (RFC 8259) of which the schema makes
-- these filters, of which no judge refuses one. Assumes nothing.
use mathlib.Core.Path.{◌≡◌, refl, ap, sym, ◌∙◌}
use mathlib.Core.Bool.{Bool, true}
use mathlib.Core.List.{List, [], ◌∷◌, ◌++◌, append-nil}
use mathlib.Core.Option.{Option, none, some}
use Prim.Native.Nat.{ℕ}
use native.Mathlib.Omega.{arith}
use lib.ListN.{length}
use Rattle.definitions.specs.Format.{check}
use Rattle.definitions.specs.Json.{Blank, Json, Written, Text, text}
use Rattle.definitions.specs.JsonForm.{Line, Filter, filters_of}
use Rattle.definitions.specs.JsonReader.{Got, got, blanks}
use Rattle.definitions.specs.FormReader.{Judges, plain, all_read, whole, filters_there, read_filters}
use Rattle.json_theorems.proofs.Tests.{then_some, check_some}
use Rattle.json_theorems.proofs.Parts.{follow_got, blanks_sound, blanks_complete}
use Rattle.json_theorems.proofs.Loops.{Faithful}
use Rattle.json_theorems.proofs.Values.{written_begins, blank_rest, all_blank}
use Rattle.json_theorems.proofs.Faith.{some_same, stopped}
use Rattle.json_theorems.proofs.Objects.{every, ok_condition, ok_args, ok_line, ok_filter, only, filters_by, filters_faithful, filters_only}

-- a text has a value of which f makes a
pub record TextThere {A : Type 0} (f : Json → Option A) (t : List ℕ) (a : A) : Type 0 where
  pub is : Json
  pub written : Text t is
  pub meant : f is ≡ some a

module _ {A : Type 0} (r : List ℕ → Got A) (f : Json → Option A) (faith : (m : ℕ) → Faithful m r f) where
  pub whole_sound : (t : List ℕ) (a : A) (rest : List ℕ) → whole r t ≡ got a rest → TextThere f t a
  unfolding whole
  whole_sound t a rest e =
      let o = follow_got (r (blanks t)) (λ u more. all_read u (blanks more)) a rest e in
      let s = (faith 0).sound (blanks t) o.part o.behind o.was in
      let w = blanks_sound t in
      let x = blanks_sound o.behind in
      last o.part (blanks o.behind) o.gave s.bytes s.is s.written s.meant w.skipped w.blank x.skipped x.blank
      (w.here ∙ ap (λ (m : List ℕ). w.skipped ++ m) (s.here ∙ ap (λ (m : List ℕ). s.bytes ++ m) x.here))
    where
      retext : {p q : List ℕ} {v : Json} → p ≡ q → Text p v → Text q v
      retext e k = rw e at k

      last : (u : A) (more : List ℕ) → all_read u more ≡ got a rest → (b : List ℕ) (is : Json) → Written b is → f is ≡ some u → (w : List ℕ) → Blank w → (x : List ℕ) → Blank x
          → t ≡ w ++ (b ++ (x ++ more)) → TextThere f t a
      last u [] g b is wr eu w bw x bx here =
          let ev : u ≡ a = cc in
          record { is = is; written = retext (ap (λ (m : List ℕ). w ++ (b ++ m)) (sym (append-nil x)) ∙ sym here) (text bw wr bx); meant = eu ∙ ap some ev }
      last u (c ∷ more) g b is wr eu w bw x bx here = stopped g

  pub whole_complete : {t : List ℕ} {v : Json} → Text t v → (a : A) → f v ≡ some a → whole r t ≡ got a []
  unfolding whole
  whole_complete (text {w = w} {b = b} {x = x} {v = v} bw wr bx) a e =
      rw (
        blanks_complete w (b ++ x) bw (written_begins b v wr x),
        (faith (length b)).complete b v a x wr (omega arith) e (blank_rest x bx),
        all_blank x bx,
      )

-- ---- the judged reader

-- the filters of a text that the judges take
pub record Front (j : Judges) (t : List ℕ) (fs : List Filter) : Type 0 where
  pub is : Json
  pub written : Text t is
  pub form : filters_of is ≡ some fs
  pub taken : every (ok_filter j) fs ≡ true

pub front_sound : (j : Judges) (t : List ℕ) (fs : List Filter) (rest : List ℕ) → read_filters j t ≡ got fs rest → Front j t fs
unfolding read_filters
front_sound j t fs rest e =
    let w = whole_sound (filters_there j) (filters_by j) (λ m. filters_faithful m j) t fs rest e in
    let s = then_some (filters_of w.is) (λ gs. check (every (ok_filter j) gs) (some gs)) fs (sym (filters_only j w.is) ∙ w.meant) in
    let c = check_some (every (ok_filter j) s.0) (some s.0) fs s.2 in
    let z : s.0 ≡ fs = some_same c.1 in
    record { is = w.is; written = w.written; form = s.1 ∙ ap some z; taken = rw z at c.0 }

pub front_complete : (j : Judges) (t : List ℕ) (fs : List Filter) → Front j t fs → read_filters j t ≡ got fs []
unfolding read_filters
front_complete j t fs f =
    whole_complete (filters_there j) (filters_by j) (λ m. filters_faithful m j) f.written fs (filters_only j f.is ∙ made (filters_of f.is) f.form f.taken)
  where
    made : (o : Option (List Filter)) → o ≡ some fs → every (ok_filter j) fs ≡ true → only (every (ok_filter j)) o ≡ some fs
    made o e h = rw (e, h)

-- ---- the plain reader: exactly what the schema says

every_true : {A : Type 0} (ok : A → Bool) → ((a : A) → ok a ≡ true) → (as' : List A) → every ok as' ≡ true
every_true ok e [] = refl
every_true ok e (a ∷ as') = rw (e a) (every_true ok e as')

plain_line : (l : Line) → ok_line plain l ≡ true
plain_line l = go l.args
  where
    go : (o : _) → ok_args plain o ≡ true
    go none = refl
    go (some r) = rw (every_true (ok_condition plain) (λ c. refl) r)

plain_filter : (f : Filter) → ok_filter plain f ≡ true
plain_filter f = rw (every_true (ok_line plain) plain_line f.lines)

pub plain_sound : (t : List ℕ) (fs : List Filter) (rest : List ℕ) → read_filters plain t ≡ got fs rest → TextThere filters_of t fs
plain_sound t fs rest e = let f = front_sound plain t fs rest e in record { is = f.is; written = f.written; meant = f.form }

pub plain_complete : (t : List ℕ) (fs : List Filter) → TextThere filters_of t fs → read_filters plain t ≡ got fs []
plain_complete t fs w = front_complete plain t fs (record { is = w.is; written = w.written; form = w.meant; taken = every_true (ok_filter plain) plain_filter fs })

-- ---- no fault exactly where the plain reader gives filters that the judges take

pub fault_sound : (j : Judges) (t : List ℕ) (fs : List Filter) (rest : List ℕ) → read_filters j t ≡ got fs rest → (read_filters plain t ≡ got fs []) × (every (ok_filter j) fs ≡ true)
fault_sound j t fs rest e =
    let f = front_sound j t fs rest e in
    (plain_complete t fs (record { is = f.is; written = f.written; meant = f.form }), f.taken)

pub fault_complete : (j : Judges) (t : List ℕ) (fs : List Filter) (rest : List ℕ) → read_filters plain t ≡ got fs rest → every (ok_filter j) fs ≡ true → read_filters j t ≡ got fs []
fault_complete j t fs rest e h =
    let f = plain_sound t fs rest e in
    front_complete j t fs (record { is = f.is; written = f.written; form = f.meant; taken = h })
