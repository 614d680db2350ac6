-- Words that stand for numbers, and the key of an object that has one. Needs no belief.
use Rattle.std.specs.Prelude.{ℕ, Bool, true, false, cond, List, eqb}
use Rattle.std.proofs.Math.Option.{Option, some}
use Rattle.definitions.specs.Json.{ascii}
use Rattle.definitions.specs.JsonForm.{same, word_of, numbered_words}
use Rattle.definitions.specs.Format.{check}
use Rattle.definitions.specs.JsonReader.{Got, got, stop, follow, first, blanks}
use Rattle.definitions.specs.FormReader.{not_of_form, given_twice, or_stop}
use Rattle.json_theorems.specs.Turns.{open_there, colon_there, more_there}
use Rattle.json_theorems.specs.Turns.{key_string}

-- what the only key of an object may be: masked_eq, or errno and trace
abbrev pub key_known : Bool → List ℕ → Option ℕ
key_known true k = check (same (ascii "masked_eq") k) (some 0)
key_known false k = word_of numbered_words k

-- the key, by what it stands for
unfoldable pub key_meant : ℕ → List ℕ
key_meant n = cond (eqb n 0x50000) (ascii "errno") (cond (eqb n 0x7ff00000) (ascii "trace") (ascii "masked_eq"))

-- an object with one key: up to its value, and behind it
unfoldable pub one_begins : (List ℕ → Option ℕ) → List ℕ → Got ℕ
one_begins known l =
    follow (open_there 0x7b l) (λ z rest. cond (eqb (first (blanks rest)) 0x7d) (stop not_of_form (blanks rest))
    (follow (key_string (blanks rest)) (λ k past. follow (or_stop (known k) (blanks rest) past) (λ n behind.
    follow (colon_there behind) (λ y value. got n value)))))

unfoldable pub one_ends : List ℕ → List ℕ → Got ℕ
one_ends key l =
    follow (more_there 0x7d l) (λ more next.
    cond more (follow (key_string (blanks next)) (λ k past. stop (cond (same key k) given_twice not_of_form) (blanks next))) (got 0 next))
