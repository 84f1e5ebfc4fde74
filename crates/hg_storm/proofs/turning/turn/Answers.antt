use Rattle.std.proofs.Common.{ℕ, ◌≡◌, ◌+◌, ◌<◌, inl, inr, List, length, sym, ap, ◌∙◌, subst, arith}
use Rattle.hg_storm.specs.Drawing.{peer_drawn, state_at}
use Rattle.hg_storm.proofs.TakeLaws.{on_err}
use Rattle.hg_storm.proofs.TurnLaws.{drawn_next, serves_none}
use Rattle.hg_storm.proofs.turning.turn.Goals as goal

pub send_to-requires-clause-at : goal.send_to-requires-clause-at
send_to-requires-clause-at g c =
    let few = c.requires.few in (
      c.args.t + 1,
      record {
        plan = c.args.plan.now;
        place = c.args.place;
        drawn = c.args.t;
        few = omega (arith, few);
        stands = c.in_ok-take_and_make.ensures.makes c.args.plan.now c.args.place c.args.t c.requires.stands;
      },
    )

pub returns-in_ok-send_to-clause-stands : goal.returns-in_ok-send_to-clause-stands
returns-in_ok-send_to-clause-stands g c =
    let plan = c.args.plan.now in
    let me = c.take_and_make.new.desk.me in
    let value = c.as_slice.ensures.value in
    let others : 1 < length plan.circle.items = subst (λ (l : List ℕ). 1 < length l) value c.in-Some.ensures.others in
    let same = c.in_ok-take_and_make.ensures.on.me in
    let was : (1 < length plan.circle.items) → c.take_and_make.new.desk.draws ≡ state_at plan me c.args.t =
    (λ more. c.take_and_make.ensures.draws ∙ (c.requires.draws more ∙ ap (λ (n : ℕ). state_at plan n c.args.t) (sym same))) in
    let state = c.draw_peer.ensures.state (subst (λ (l : List ℕ). 1 < length l) (sym value) others) in
    let next : c.draw_peer.new.draws ≡ state_at plan me (c.args.t + 1) = drawn_next plan me c.args.t c.take_and_make.new.desk.draws c.draw_peer.new.draws was others state in
    c.in_ok-send_to.ensures.serves plan c.args.place c.args.t (record {
      others = others;
      peer = c.in-Some.ensures.some ∙ (λ i. peer_drawn (value i) c.args.place (next i));
    }) (c.in_ok-take_and_make.ensures.makes plan c.args.place c.args.t c.requires.stands)

pub returns-in_ok-send_to-clause-draws : goal.returns-in_ok-send_to-clause-draws
returns-in_ok-send_to-clause-draws g c others =
    let plan = c.args.plan.now in
    let me = c.take_and_make.new.desk.me in
    let value = c.as_slice.ensures.value in
    let same = c.in_ok-take_and_make.ensures.on.me in
    let was : (1 < length plan.circle.items) → c.take_and_make.new.desk.draws ≡ state_at plan me c.args.t =
    (λ more. c.take_and_make.ensures.draws ∙ (c.requires.draws more ∙ ap (λ (n : ℕ). state_at plan n c.args.t) (sym same))) in
    let state = c.draw_peer.ensures.state (subst (λ (l : List ℕ). 1 < length l) (sym value) others) in
    c.send_to.ensures.draws ∙ (drawn_next plan me c.args.t c.take_and_make.new.desk.draws c.draw_peer.new.draws was others state
    ∙ ap (λ (n : ℕ). state_at plan n (c.args.t + 1)) (sym c.in_ok-send_to.ensures.on.me))

pub returns-in_default-clause-stands : goal.returns-in_default-clause-stands
returns-in_default-clause-stands g c =
    let none = c.in_default.ensures.none in
    serves_none c.args.plan.now c.args.place c.args.mailboxes.now c.args.shared.now c.args.t (c.args.t + 1) c.take_and_make.new.desk.me c.take_and_make.new.desk.log c.take_and_make.new.desk.seat
    c.take_and_make.new.desk.ports.items c.take_and_make.new.desk.inbox (omega (arith, none, ap length c.as_slice.ensures.value)) (c.in_ok-take_and_make.ensures.makes c.args.plan.now c.args.place c.args.t c.requires.stands)

pub returns-in_err-take_and_make-clause-stopped : goal.returns-in_err-take_and_make-clause-stopped
returns-in_err-take_and_make-clause-stopped g c = on_err c.from_residual.result _ (inl c.in_err-take_and_make.ensures.stopped)

pub returns-in_err-send_to-clause-stopped : goal.returns-in_err-send_to-clause-stopped
returns-in_err-send_to-clause-stopped g c =
    let few = c.requires.few in
    on_err c.from_residual-in_err-send_to.result _ (inr (c.in_err-send_to.ensures.stopped (c.args.t + 1) (record {
      plan = c.args.plan.now;
      place = c.args.place;
      drawn = c.args.t;
      few = omega (arith, few);
      stands = c.in_ok-take_and_make.ensures.makes c.args.plan.now c.args.place c.args.t c.requires.stands;
    })))
