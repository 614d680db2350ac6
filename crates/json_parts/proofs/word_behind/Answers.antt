use mathlib.Core.Path.{refl}
use Rattle.std.specs.Prelude.{Err}
use lib.ListN.{drop}
use Rattle.definitions.specs.JsonReader.{string_at}
use Rattle.json_parts.proofs.Strings as strings
use Rattle.json_parts.proofs.word_behind.Goals as goal

pub bad_character-requires : goal.bad_character-requires
bad_character-requires c = strings.stored_inside c.args.text.now _ _ (string_at (drop c.args.at c.args.text.now)) (Err _) c.in-Err.ensures

pub returns-in-Ok : goal.returns-in-Ok
returns-in-Ok c = strings.kept_word c.args.text.now c.args.at c.requires _ _ _ _ c.in-Ok.ensures refl c.packed.ensures

pub returns-in-Err : goal.returns-in-Err
returns-in-Err c = rw c.not_json.ensures (strings.not_kept c.args.text.now c.args.at c.requires _ _ _ _ c.in-Err.ensures c.bad_character.ensures)
