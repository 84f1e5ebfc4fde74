use Rattle.std.proofs.Common.{◌∙◌, ◌^◌, List, length, take, subst, ap, arith}
use Rattle.hg_model.specs.declared.row.Placed.{Placed}
use Rattle.hg_model.specs.Prefix.{Graph}
use Rattle.hg_proof.specs.Answers.{order_in}
use Rattle.hg_proof.specs.Certificate.{certificate, certificate_bytes}
use Rattle.hg_proof.specs.Least.{IsLeast}
use Rattle.hg_proof.proofs.FrontLaws.{few_ordered, few_places}
use Rattle.hg_proof.proofs.WriteLaws.{proves}
use Rattle.hg_proof.proofs.proving.certificate.Goals as goal

pub order_in-requires : goal.order_in-requires
order_in-requires g c = c.len.ensures.lawful.graph

pub certificate_bytes-requires-clause-len : goal.certificate_bytes-requires-clause-len
certificate_bytes-requires-clause-len g c = c.in_ok-len.ensures.within

pub certificate_bytes-requires-clause-few : goal.certificate_bytes-requires-clause-few
certificate_bytes-requires-clause-few g c =
    omega (arith, few_ordered c.graph-graph.result.now.graph, c.len.ensures.lawful.few, ap length c.in_ok-order.ensures, ap length c.as_slice-2.ensures.value)

pub certificate_bytes-requires-clause-places : goal.certificate_bytes-requires-clause-places
certificate_bytes-requires-clause-places g c =
    few_places c.graph-graph.result.now.graph c.as_slice-2.result.now (2 ^ 32) (c.as_slice-2.ensures.value ∙ c.in_ok-order.ensures) (omega (arith, c.len.ensures.lawful.few))

pub returns : goal.returns
returns g c =
    let v = c.args.node.now in
    let len = c.in_ok-len.len in
    let order : List Placed = c.as_slice-2.result.now in
    proves g.V.Verifier.accepts v c.is_node.ensures c.in_ok-bytes.bytes.items len order
    (subst (λ (h : Graph). IsLeast h len) c.graph-graph.ensures c.in_ok-len.ensures)
    (c.as_slice-2.ensures.value ∙ (c.in_ok-order.ensures ∙ ap (λ (h : Graph). order_in h) c.graph-graph.ensures))
    c.in_ok-bytes.ensures.sized
    (c.in_ok-bytes.ensures.bytes ∙ ap (λ (h : Graph). certificate_bytes (certificate (take len h.rows) order)) c.graph-graph.ensures)
