-- Laws that join what is said of a set with the answer's definition, and an answer of 0 with what may be written.
use mathlib.Core.Path.{◌≡◌, refl, ap, sym, ◌∙◌}
use mathlib.Core.Bool.{Bool, true, false}
use mathlib.Core.List.{List, ◌++◌}
use mathlib.Core.Option.{Option, none, some}
use Prim.Native.Nat.{ℕ, ◌*◌, ◌≤◌}
use native.Mathlib.Nat.{zero-add}
use native.Mathlib.Omega.{arith}
use lib.Dec.{leb, ltb}
use lib.ListN.{length}
use borrow.Author.Tests.{le-leb}
use Rattle.definitions.specs.declared.Fault.{Fault}
use Rattle.definitions.specs.declared.Answer.{Answer}
use Rattle.definitions.specs.Word.{AreBytes, number_at}
use Rattle.definitions.specs.Machine.{filter_bytes}
use Rattle.definitions.specs.Emitted.{emitted}
use Rattle.definitions.specs.RuleSet.{RuleSet}
use Rattle.definitions.specs.Format.{read}
use Rattle.definitions.specs.Answer.{fault, nowhere, placeless, unless, too_many, filter_faults, too_long, least_of, turns_long, count_with, answer, emitted_size, answer_by, answer_of, search_size, search_answer_of}
use Rattle.definitions.specs.Compiled.{Compiled, Searched}
use Rattle.theorems.proofs.Lengths.{length_emitted}
use Rattle.theorems.proofs.Bytes.{length_filter}
use Rattle.theorems.proofs.Faults.{least_append}
use Rattle.theorems.specs.Outputs.{list, search}
use Rattle.theorems.proofs.Answers.{never_one}
use Rattle.theorems.proofs.Outputs.{compiles_in}
use Rattle.theorems.proofs.Compiled.{refused, done}
use Rattle.definitions.specs.SearchForm.{search_form}
use Rattle.search_form.proofs.Shorter.{shorter}
use Rattle.search_form.proofs.Searched as searched
use Rattle.search_writer.specs.Forms.{first_here}
use Rattle.bpf.specs.Place.{place}
use Rattle.set_view.specs.Parts.{set_here, Readable}
use Rattle.set_view.proofs.Agree.{read_agrees, readable}
use Rattle.judge.specs.declared.Judged.{Judged}
use Rattle.judge.specs.Walk.{judged}

-- no filter has no faults
no_filter : (f : Fault) (long room : ℕ) → least_of f (filter_faults 0 long room) ≡ f
unfolding least_of filter_faults unless
no_filter f long room = rw (le-leb 0 room (omega arith))

-- a set's fault with those of its filter noted behind it
pub answer_with : (n long room : ℕ) (found six seven first second : Fault) (count : ℕ) → six ≡ fault 6 long nowhere nowhere → seven ≡ placeless 7
    → first ≡ least_of found (unless (ltb n too_many) six) → second ≡ least_of first (unless (leb (8 * n) room) seven) → count ≡ count_with second.code n
    → record { code = second.code; count = count; entry = second.entry; rule = second.rule; condition = second.condition } ≡ answer n (least_of found (filter_faults n long room))
unfolding answer filter_faults
answer_with n long room found six seven first second count p q a b k =
    let e : second ≡ least_of found (unless (ltb n too_many) six ++ unless (leb (8 * n) room) seven) = b ∙ rw a (sym (least_append found (unless (ltb n too_many) six) (unless (leb (8 * n) room) seven))) in
    rw (k, ← p, ← q, ← e)

answer_by_lem : (x : Option RuleSet) (room : ℕ)
    → answer_by emitted_size too_long x room ≡ answer (judged x).count (least_of (judged x).fault (filter_faults (judged x).count (judged x).long room))
unfolding judged
answer_by_lem none room = rw (no_filter _ 0 room)
answer_by_lem (some rs) room = rw (length_emitted rs)

-- the answer, from what is said of a set
pub answer_from : (s : List ℕ) (room : ℕ) (j : Judged) → j ≡ judged (read s)
    → answer_of s room ≡ answer j.count (least_of j.fault (filter_faults j.count j.long room))
unfolding answer_of
answer_from s room j e = rw e (answer_by_lem (read s) room)

-- ---- the filter may be written, and is then the compiled one

pub writable : (set : List ℕ) (room : ℕ) (r : Answer) → r ≡ answer_of set room → r.code ≡ 0 → Readable set × (8 * length (emitted (set_here set)) ≤ room)
writable set room r a z =
    let w = compiles_in list set room r a z in
    (readable set w.0 w.1.from, rw (← (read_agrees set w.0 w.1.from).0) w.1.fits)

pub refused_compiled : {set before after : List ℕ} {r : Answer} → r ≡ answer_of set (length before) → (r.code ≡ 0 → ⊥) → after ≡ before
    → Compiled set before after r
refused_compiled a h e = record { answer = a; same = λ z. absurd (h z); behaves = refused h e }

pub done_compiled : (set before after : List ℕ) (r : Answer) → AreBytes set → r ≡ answer_of set (length before) → r.code ≡ 0
    → after ≡ place before 0 (filter_bytes (emitted (set_here set))) → Compiled set before after r
unfolding place
done_compiled set before after r bytes a z p =
    let w = compiles_in list set (length before) r a z in
    let g = read_agrees set w.0 w.1.from in
    done set before after r w.0 bytes a w.1 (p ∙ rw (← g.0, zero-add, length_filter (emitted w.0)))

-- ---- the same, where the filter is a search

-- with as many entries as the head says, it is that of the set
pub search_size_lem : (s : List ℕ) (n size : ℕ) → n ≡ number_at 4 s 12 → size ≡ search_size (first_here s n) → size ≡ search_size (set_here s)
unfolding set_here
search_size_lem s n size e h = h ∙ rw e

-- which entry is told matters only where there are too many instructions
told_long : (n a b room : ℕ) → (ltb n too_many ≡ false → a ≡ b) → filter_faults n a room ≡ filter_faults n b room
unfolding filter_faults unless
told_long n a b room same = go (ltb n too_many) same
  where
    go : (t : Bool) → (t ≡ false → a ≡ b)
        → unless t (fault 6 a nowhere nowhere) ++ unless (leb (8 * n) room) (placeless 7)
        ≡ unless t (fault 6 b nowhere nowhere) ++ unless (leb (8 * n) room) (placeless 7)
    go true e = refl
    go false e = rw (e refl)

-- of a set of the format, by the length of its search form
pub record SearchAnswer (s : List ℕ) (room : ℕ) (j : Judged) : Type 0 where
  pub reads : Readable s
  pub small : search_size (set_here s) ≤ j.count
  pub said : (long : ℕ) → (ltb (search_size (set_here s)) too_many ≡ false → long ≡ turns_long search_size (set_here s))
      → search_answer_of s room ≡ answer (search_size (set_here s)) (least_of j.fault (filter_faults (search_size (set_here s)) long room))

search_by : (s : List ℕ) (room : ℕ) (x : Option RuleSet) → read s ≡ x → ((judged x).fault.code ≡ 1 → ⊥) → SearchAnswer s room (judged x)
unfolding judged search_answer_of
search_by s room none e h = absurd (h refl)
search_by s room (some rs) e h =
    let g = read_agrees s rs e in
    record {
      reads = readable s rs e;
      small = rw (← g.0, ← length_emitted rs) (shorter rs);
      said = λ long told. rw (e, ← g.0, told_long (search_size rs) long (turns_long search_size rs) room (rw (← g.0) at told));
    }

pub search_answer : (s : List ℕ) (room : ℕ) (j : Judged) → j ≡ judged (read s) → (j.fault.code ≡ 1 → ⊥) → SearchAnswer s room j
search_answer s room j e h = rw e (search_by s room (read s) refl (rw e at h))

none_by : (x : Option RuleSet) (room : ℕ) → (judged x).fault.code ≡ 1
    → answer_by search_size (turns_long search_size) x room ≡ answer 0 (least_of (judged x).fault (filter_faults 0 nowhere room))
unfolding judged
none_by none room e = rw (no_filter _ nowhere room)
none_by (some rs) room e = absurd (never_one rs e)

pub search_none : (s : List ℕ) (room : ℕ) (j : Judged) → j ≡ judged (read s) → j.fault.code ≡ 1
    → search_answer_of s room ≡ answer 0 (least_of j.fault (filter_faults 0 nowhere room))
unfolding search_answer_of
search_none s room j e z = rw e (none_by (read s) room (rw e at z))

pub search_writable : (set : List ℕ) (room : ℕ) (r : Answer) → r ≡ search_answer_of set room → r.code ≡ 0
    → Readable set × (r.count ≡ search_size (set_here set)) × (8 * r.count ≤ room)
unfolding answer
search_writable set room r a z =
    let w = compiles_in search set room r a z in
    let count : r.count ≡ search_size w.0 = ap (λ (x : Answer). x.count) w.1.said in
    (readable set w.0 w.1.from, rw (← (read_agrees set w.0 w.1.from).0) count, rw count w.1.fits)

pub done_searched : (set before after : List ℕ) (r : Answer) → AreBytes set → r ≡ search_answer_of set (length before) → r.code ≡ 0
    → after ≡ place before 0 (filter_bytes (search_form (set_here set))) → Searched set before after r
unfolding place
done_searched set before after r bytes a z p =
    let w = compiles_in search set (length before) r a z in
    let g = read_agrees set w.0 w.1.from in
    searched.done set before after r w.0 bytes a w.1 (p ∙ rw (← g.0, zero-add, length_filter (search_form w.0)))
