-- The definitions that a written-out line unfolds to its request
use Rattle.std.specs.Prelude.{⊤}
use Rattle.std.specs.Char.{encode_utf8}
use Rattle.std.specs.Str.{chars, is_utf8}
use Rattle.hex.specs.Hex.{decode_pairs}
use Rattle.hg_life.specs.Pay.{pay_bytes}
use Rattle.hg_script.specs.Payload.{transfer_of}
use Rattle.hg_service.specs.Asking.{lines_in, request_of}

unfoldable pub line_on_literals : ⊤
unfolding lines_in request_of pay_bytes transfer_of decode_pairs is_utf8 chars encode_utf8
line_on_literals = tt
