-- What skipping a string and decoding it give, told by places. Assumes nothing.
use mathlib.Core.Path.{◌≡◌, refl, ap, ◌∙◌}
use mathlib.Core.List.{List}
use Prim.Native.Nat.{ℕ, ◌≤◌}
use lib.ListN.{length, drop, replicate}
use lib.Seq.{sets}
use Rattle.definitions.specs.Word.{number_at}
use Rattle.definitions.specs.JsonReader.{Got, got, stop, string_at, placed, bad_character}
use Rattle.std.specs.Prelude.{Result, Ok, Err, MatchResult}
use Rattle.json_scan.specs.Scan.{At, Stands, Tells}
use Rattle.json_strings.specs.declared.Decoded.{Decoded}
use Rattle.json_strings.specs.Decoding.{Stored}
use Rattle.json_strings.proofs.Storing.{kept_zeros}
use Rattle.json_parts.specs.declared.Word.{Word}
use Rattle.json_parts.specs.Words.{filled, Packs, Keeps}
use Rattle.json_parts.proofs.Places.{string_read, string_refused}

-- the place that is told is in the text, whatever is told
pub stands_inside : (text : List ℕ) (g : Got (List ℕ)) (r : Result ℕ ℕ) → Stands text g r → MatchResult r (λ at. at ≤ length text) (λ at. at ≤ length text)
stands_inside text (got a rest) (Ok at) t = t.inside
stands_inside text (got a rest) (Err at) t = absurd t
stands_inside text (stop k rest) (Ok at) t = absurd t
stands_inside text (stop k rest) (Err at) t = t.inside

pub stored_inside : (text zeros out : List ℕ) (g : Got (List ℕ)) (r : Result Decoded ℕ) → Stored text zeros 0 g out r
    → MatchResult r (λ d. d.at ≤ length text) (λ at. at ≤ length text)
stored_inside text zeros out (got a rest) (Ok d) t = t.place.inside
stored_inside text zeros out (got a rest) (Err at) t = absurd t
stored_inside text zeros out (stop k rest) (Ok d) t = absurd t
stored_inside text zeros out (stop k rest) (Err at) t = t.inside

module _ (text : List ℕ) (from : ℕ) (inside : from ≤ length text) where
  pub skipped : (at : ℕ) → Stands text (string_at (drop from text)) (Ok at) → Tells text from (λ s. Unit {0}) (placed bad_character (string_at (drop from text))) 0 at
  skipped at s = go (string_at (drop from text)) refl s
    where
      go : (g : Got (List ℕ)) → string_at (drop from text) ≡ g → Stands text g (Ok at) → Tells text from (λ s. Unit {0}) (placed bad_character (string_at (drop from text))) 0 at
      go (got a rest) f t = string_read f refl inside t tt
      go (stop k rest) f t = absurd t

  pub not_skipped : {Is : List ℕ → Type 0} (at bad : ℕ) → Stands text (string_at (drop from text)) (Err at) → At text (bad_character (drop at text)) bad
      → Tells text from Is (placed bad_character (string_at (drop from text))) 10 bad
  not_skipped {Is = Is} at bad s b = go (string_at (drop from text)) refl s
    where
      go : (g : Got (List ℕ)) → string_at (drop from text) ≡ g → Stands text g (Err at) → Tells text from Is (placed bad_character (string_at (drop from text))) 10 bad
      go (got a rest) f t = absurd t
      go (stop k rest) f t = string_refused f refl t b

  module _ (zeros out : List ℕ) where
    pub kept_word : (d : Decoded) (w : Word) → Stored text zeros 0 (string_at (drop from text)) out (Ok d) → zeros ≡ replicate 16 0 → Keeps out d.count w
        → Tells text from (λ s. Packs s w) (placed bad_character (string_at (drop from text))) 0 d.at
    kept_word d w s z k = go (string_at (drop from text)) refl s
      where
        go : (g : Got (List ℕ)) → string_at (drop from text) ≡ g → Stored text zeros 0 g out (Ok d)
            → Tells text from (λ s. Packs s w) (placed bad_character (string_at (drop from text))) 0 d.at
        go (got a rest) f t =
            let o : out ≡ filled a = t.stored ∙ ap (λ (x : List ℕ). sets x 0 a) z ∙ kept_zeros 16 a in
            string_read f refl inside t.place (record {
              counted = k.counted ∙ t.counted;
              low = k.low ∙ ap (λ (x : List ℕ). number_at 8 x 0) o;
              high = k.high ∙ ap (λ (x : List ℕ). number_at 8 x 8) o;
              bytes = rw o at k.bytes;
            })
        go (stop j rest) f t = absurd t

    pub not_kept : {Is : List ℕ → Type 0} (at bad : ℕ) → Stored text zeros 0 (string_at (drop from text)) out (Err at) → At text (bad_character (drop at text)) bad
        → Tells text from Is (placed bad_character (string_at (drop from text))) 10 bad
    not_kept {Is = Is} at bad s b = go (string_at (drop from text)) refl s
      where
        go : (g : Got (List ℕ)) → string_at (drop from text) ≡ g → Stored text zeros 0 g out (Err at) → Tells text from Is (placed bad_character (string_at (drop from text))) 10 bad
        go (got a rest) f t = absurd t
        go (stop j rest) f t = string_refused f refl t b
