use Rattle.std.proofs.Common.{◌≡◌, ◌<◌, ◌∙◌, [], arith, length, ap, sym, subst, List, Some, slice_get}
use Rattle.std.specs.Option.{option_map}
use Rattle.std.proofs.lemmas.List.{length-map}
use Rattle.std.proofs.lemmas.Option.{slice_get-get_or, slice_get-map}
use Rattle.hg_life.specs.declared.pay.Transfer.{Transfer}
use Rattle.hg_life.specs.Pay.{transfer_in}
use Rattle.hg_pay.proofs.pay.Pay.get.Goals as goal

pub returns : goal.returns
returns c =
    let chunks = c.self.inside.chunks.now in
    let inside : c.args.i < length chunks = omega (arith, c.requires, ap (λ (ts : List Transfer). length ts) c.self.view_is, length-map chunks transfer_in) in
    subst (λ (ts : List Transfer). slice_get ts c.args.i ≡ Some c.transfer_in.result) c.self.view_is
    (slice_get-map transfer_in chunks c.args.i ∙ ap (option_map transfer_in) (slice_get-get_or chunks c.args.i [] inside) ∙ ap Some (sym c.transfer_in.ensures))
