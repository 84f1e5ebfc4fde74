-- What an answer unfolds to compute the lines of a written-out script.
use Rattle.std.specs.Char.{encode_utf8}
use Rattle.std.specs.Prelude.{⊤}
use Rattle.std.specs.Str.{chars, is_utf8}
use Rattle.hex.specs.Hex.{decode_pairs}
use Rattle.hg_life.specs.Pay.{pay_bytes}
use Rattle.hg_script.specs.Payload.{transfer_of}
use Rattle.hg_script.specs.Script.{lines_of}
use Rattle.hg_script.specs.Table.{alter, create, cut, forge, freeze, give, join, name, names, publish, pull, raw, show, show_kept, sync}

unfoldable pub script_on_literals : ⊤
unfolding lines_of pay_bytes transfer_of alter create cut forge freeze give join name names publish pull raw show show_kept sync decode_pairs is_utf8 chars encode_utf8
script_on_literals = tt
