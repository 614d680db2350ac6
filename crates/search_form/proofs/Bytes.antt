-- BYTES: decoding the bytes of the search form gives it back, so that what holds of it holds of the bytes.
use Rattle.theorems.proofs.Bytes.{filter_back, shaped_fits}
use Rattle.definitions.specs.SearchForm.{search_form}
use Rattle.search_form.specs.Statements.{Bytes}
use Rattle.search_form.proofs.Taken.{form_sound}

pub search_back : Bytes
search_back rs r t l = filter_back (search_form rs) (shaped_fits (search_form rs) (form_sound rs r t l).shaped)
