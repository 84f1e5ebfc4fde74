use Rattle.std.proofs.Common.{rules, ◌≡◌, ◌∙◌, ◌%◌, ℕ, Bool, true, Option, Some, None, IfSome, is_some, option_map, ap, sym}
use Rattle.hg_model.specs.GraphWords.{fame_in}
use Rattle.hg_fame.proofs.ShareLaws.{fame_of_share, no_fame_of_others}
use Rattle.hg_fame.proofs.sharing.share_fame.Goals as goal

pub returns-then-index-of-clause-fame : goal.returns-then-index-of-clause-fame
returns-then-index-of-clause-fame g c =
    no_fame_of_others (g.P.Prefix.graph c.args.p.now) c.args.share c.args.x c.args.index c.requires.index
    (λ same. c.if-index-of.true (ap (λ (k : ℕ). c.args.index % k) c.of.ensures.value ∙ (same ∙ sym c.k.ensures.value)))

pub returns-clause-fame : goal.returns-clause-fame
returns-clause-fame g c =
    let mapped : c.map.result ≡ option_map (λ (decision : Bool × ℕ). decision.0) c.elect.result = search rules in
    mapped
    ∙ (c.elect.ensures.fame
    ∙ fame_of_share (g.P.Prefix.graph c.args.p.now) c.args.share c.args.x c.args.index c.requires.place c.requires.witness c.requires.index
    (sym (ap (λ (k : ℕ). c.args.index % k) c.of.ensures.value) ∙ (c.if-index-of.false ∙ c.k.ensures.value)))

-- a fame that is known is that of the graph
known_fame : (known fame : Option Bool) → IfSome known (λ v. fame ≡ Some v) → is_some known ≡ true → known ≡ fame
known_fame None fame is some = absurd (cc)
known_fame (Some v) fame is some = sym is

pub returns-then-is_some-clause-fame : goal.returns-then-is_some-clause-fame
returns-then-is_some-clause-fame g c =
    let graph = g.P.Prefix.graph c.args.p.now in
    known_fame c.args.known (fame_in graph c.args.x) c.requires.known (sym c.is_some.ensures ∙ c.if-is_some.true)
    ∙ fame_of_share graph c.args.share c.args.x c.args.index c.requires.place c.requires.witness c.requires.index
    (sym (ap (λ (k : ℕ). c.args.index % k) c.of.ensures.value) ∙ (c.if-index-of.false ∙ c.k.ensures.value))
