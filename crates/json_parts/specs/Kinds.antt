-- The objects that the form has, with their keys. Needs no belief.
use Rattle.std.specs.Prelude.{List}
use Rattle.definitions.specs.JsonForm.{Key, condition_keys, line_keys, filter_keys}
use Rattle.json_parts.specs.declared.Object.{Object}
use Rattle.json_parts.specs.declared.Object.TheVariants.{Condition, Line, Filter}

unfoldable pub keys_of : Object → List Key
keys_of Condition = condition_keys
keys_of Line = line_keys
keys_of Filter = filter_keys
