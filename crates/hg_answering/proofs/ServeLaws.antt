-- What is so of all requests
use Rattle.std.proofs.Common.{◌≡◌, ℕ, Bool, true, ◌||◌, if◌then◌else◌, List, [], ◌∷◌, ◌++◌, append_assoc, fold, refl, sym, ap, ◌∙◌, subst}
use Rattle.std.specs.Prelude.{Result, Ok, Err}
use Rattle.hg_life.specs.Members.{MemberList}
use Rattle.hg_life.specs.NodeView.{NodeView}
use Rattle.hg_life.specs.Signing.{Accepts}
use Rattle.hg_node.specs.Puts.{after_put}
use Rattle.hg_service.specs.Asking.{request_of}
use Rattle.hg_service.specs.Text.{answer_text}
use Rattle.hg_service.specs.declared.answer.Answer.{Answer}
use Rattle.hg_service.specs.declared.answer.Answer.TheVariants as answer
use Rattle.hg_service.specs.declared.answer.NotMade.{NotMade}
use Rattle.hg_service.specs.declared.answer.NotMade.TheVariants as not_made
use Rattle.hg_service.specs.declared.request.LineFault.{LineFault}
use Rattle.hg_service.specs.declared.request.ServiceRequest.{ServiceRequest}
use Rattle.hg_service.specs.declared.request.ServiceRequest.TheVariants as request
use Rattle.hg_answering.specs.Answering.{Answers, AnswersLine, AnswersRead, MakesOn, ServiceView, after_putting, chosen_others, settled, with_node}
use Rattle.hg_answering.specs.Putting.{Putting, nothing_put, put_one, puts, restore_one, restores}
use Rattle.hg_answering.specs.Serving.{ServesLines}
use Rattle.hg_answering.specs.Steps.{IsServed, IsStep, LeadsOver, Makes, Puts, Restores, Settles}

module _ {K : Type 0} (accepts : K → Accepts) (members : MemberList) where
  -- ---- lines

  -- some lines, and then more, are all of them at once
  pub serves_more : (s u t : ServiceView K) (first next : List (List ℕ)) (said more : List ℕ)
      → ServesLines accepts members s first said u → ServesLines accepts members u next more t
      → ServesLines accepts members s (first ++ next) (said ++ more) t
  serves_more s u t [] next said more (said_is, node_is) later =
      subst (λ (text : List ℕ). ServesLines accepts members s next (text ++ more) t) (sym said_is)
      (subst (λ (v : ServiceView K). ServesLines accepts members v next more t) node_is later)
  serves_more s u t (line ∷ first) next said more (a, w, rest, answers, said_is, serves) later = (
    a,
    w,
    rest ++ more,
    answers,
    ap (λ (text : List ℕ). text ++ more) said_is ∙ append_assoc (answer_text members a) rest more,
    serves_more w u t first next rest more serves later,
  )

  -- what is no request is answered by its fault, and changes nothing
  pub bad_changes_nothing : (s t : ServiceView K) (line : List ℕ) (fault : LineFault) (a : Answer) → request_of members line ≡ Err fault
      → AnswersLine accepts members s line a t → (a ≡ answer.Bad fault) × (t ≡ s)
  bad_changes_nothing s t line fault a is answers =
      subst (λ (read : Result ServiceRequest LineFault). AnswersRead accepts members s read a t) is answers

  -- ---- after an event by an impostor

  told_stays : (s t : ServiceView K) → s.impostor ≡ true → t ≡ s → t.impostor ≡ true
  told_stays s t is same = ap (λ (x : ServiceView K). x.impostor) same ∙ is

  known_before : (b c : Bool) → b ≡ true → b || c ≡ true
  known_before b c is = rw (is) refl

  putting_stays : (s t : ServiceView K) (p : Putting K) → s.impostor ≡ true → t ≡ after_putting s p → t.impostor ≡ true
  putting_stays s t p is same = ap (λ (x : ServiceView K). x.impostor) same ∙ known_before s.impostor _ is

  making_stays : (s t : ServiceView K) (others : Result (List (List ℕ)) NotMade) (time : ℕ) (payload : List ℕ) (a : Answer)
      → MakesOn accepts s others time payload a t → t.impostor ≡ s.impostor
  making_stays s t (Err why) time payload a (told, same) = ap (λ (x : ServiceView K). x.impostor) same
  making_stays s t (Ok others) time payload a (made, making, same, told) = same

  pub impostor_stays : (s t : ServiceView K) (r : ServiceRequest) (a : Answer) → s.impostor ≡ true → Answers accepts members s r a t → t.impostor ≡ true
  impostor_stays s t request.Members a is answers = told_stays s t is answers.1
  impostor_stays s t request.State a is answers = told_stays s t is answers.1
  impostor_stays s t request.Heads a is answers = told_stays s t is answers.1
  impostor_stays s t (request.Beyond place limit names) a is answers = told_stays s t is answers.1
  impostor_stays s t (request.Order first limit) a is answers = told_stays s t is answers.1
  impostor_stays s t (request.Events place limit) a is answers = told_stays s t is answers.1
  impostor_stays s t request.Balances a is answers = told_stays s t is answers.1
  impostor_stays s t request.Proof a is answers = told_stays s t is answers.1
  impostor_stays s t (request.Put events) a is answers = putting_stays s t (puts accepts s.node events) is answers.1
  impostor_stays s t (request.Restore events) a is answers = putting_stays s t (restores accepts s.node events) is answers.1
  impostor_stays s t (request.Make time payload names) a is answers = making_stays s t _ time payload a answers ∙ is
  impostor_stays s t request.Settle a is answers = ap (λ (x : ServiceView K). x.impostor) answers.1 ∙ is

  -- no event is made then
  pub impostor_makes_none : (s t : ServiceView K) (time : ℕ) (payload : List ℕ) (names : List (List ℕ)) (a : Answer) → s.impostor ≡ true
      → Answers accepts members s (request.Make time payload names) a t → (a ≡ answer.NotMade not_made.Impostor) × (t ≡ s)
  impostor_makes_none s t time payload names a is answers =
      subst (λ (b : Bool). MakesOn accepts s (if b then Err not_made.Impostor else chosen_others s.node payload names) time payload a t) is answers

  -- ---- events in one request are put one after the other

  put_from : (p : Putting K) (events : List (List ℕ)) → (fold (put_one accepts) p events).node ≡ fold (after_put accepts) p.node events
  put_from p [] = refl
  put_from p (bytes ∷ events) = put_from (put_one accepts p bytes) events

  pub puts_node : (v : NodeView K) (events : List (List ℕ)) → (puts accepts v events).node ≡ fold (after_put accepts) v events
  puts_node v events = put_from (nothing_put v) events

  -- ---- the nodes between

  no_step : (v w : NodeView K) → w ≡ v → IsServed accepts v w
  no_step v w same = ([], same)

  pub one_step : (v w : NodeView K) → IsStep accepts v w → IsServed accepts v w
  one_step v w step = (v ∷ [], (refl, step))

  leads_on : (v u w : NodeView K) (before after : List (NodeView K)) → LeadsOver accepts v before u → LeadsOver accepts u after w
      → LeadsOver accepts v (after ++ before) w
  leads_on v u w before [] first same = subst (λ (x : NodeView K). LeadsOver accepts v before x) (sym same) first
  leads_on v u w before (x ∷ after) first (next, step) = (leads_on v u x before after first next, step)

  pub served_on : (v u w : NodeView K) → IsServed accepts v u → IsServed accepts u w → IsServed accepts v w
  served_on v u w (before, first) (after, next) = (after ++ before, leads_on v u w before after first next)

  puts_served : (p : Putting K) (events : List (List ℕ)) → IsServed accepts p.node (fold (put_one accepts) p events).node
  puts_served p [] = no_step p.node p.node refl
  puts_served p (bytes ∷ events) =
      let q = put_one accepts p bytes in
      served_on p.node q.node _ (one_step p.node q.node (Puts bytes refl)) (puts_served q events)

  restores_served : (p : Putting K) (events : List (List ℕ)) → IsServed accepts p.node (fold (restore_one accepts) p events).node
  restores_served p [] = no_step p.node p.node refl
  restores_served p (bytes ∷ events) =
      let q = restore_one accepts p bytes in
      served_on p.node q.node _ (one_step p.node q.node (Restores bytes refl)) (restores_served q events)

  makes_served : (s t : ServiceView K) (others : Result (List (List ℕ)) NotMade) (time : ℕ) (payload : List ℕ) (a : Answer)
      → MakesOn accepts s others time payload a t → IsServed accepts s.node t.node
  makes_served s t (Err why) time payload a (told, same) = no_step s.node t.node (ap (λ (x : ServiceView K). x.node) same)
  makes_served s t (Ok others) time payload a (made, making, same, told) = one_step s.node t.node (Makes others time payload made making)

  told_served : (s t : ServiceView K) → t ≡ s → IsServed accepts s.node t.node
  told_served s t same = no_step s.node t.node (ap (λ (x : ServiceView K). x.node) same)

  served_as : (s t u : ServiceView K) → t ≡ u → IsServed accepts s.node u.node → IsServed accepts s.node t.node
  served_as s t u same served = subst (λ (x : ServiceView K). IsServed accepts s.node x.node) (sym same) served

  pub answers_served : (s t : ServiceView K) (r : ServiceRequest) (a : Answer) → Answers accepts members s r a t → IsServed accepts s.node t.node
  answers_served s t request.Members a answers = told_served s t answers.1
  answers_served s t request.State a answers = told_served s t answers.1
  answers_served s t request.Heads a answers = told_served s t answers.1
  answers_served s t (request.Beyond place limit names) a answers = told_served s t answers.1
  answers_served s t (request.Order first limit) a answers = told_served s t answers.1
  answers_served s t (request.Events place limit) a answers = told_served s t answers.1
  answers_served s t request.Balances a answers = told_served s t answers.1
  answers_served s t request.Proof a answers = told_served s t answers.1
  answers_served s t (request.Put events) a answers =
      served_as s t (after_putting s (puts accepts s.node events)) answers.1 (puts_served (nothing_put s.node) events)
  answers_served s t (request.Restore events) a answers =
      served_as s t (after_putting s (restores accepts s.node events)) answers.1 (restores_served (nothing_put s.node) events)
  answers_served s t (request.Make time payload names) a answers = makes_served s t _ time payload a answers
  answers_served s t request.Settle a answers =
      served_as s t (with_node s (settled s.node)) answers.1 (one_step s.node (settled s.node) (Settles refl))

  read_served : (s t : ServiceView K) (read : Result ServiceRequest LineFault) (a : Answer) → AnswersRead accepts members s read a t
      → IsServed accepts s.node t.node
  read_served s t (Err fault) a answers = told_served s t answers.1
  read_served s t (Ok r) a answers = answers_served s t r a answers

  pub lines_served : (s t : ServiceView K) (lines : List (List ℕ)) (said : List ℕ) → ServesLines accepts members s lines said t
      → IsServed accepts s.node t.node
  lines_served s t [] said (none, same) = told_served s t same
  lines_served s t (line ∷ lines) said (a, u, rest, answers, is, serves) =
      served_on s.node u.node t.node (read_served s u (request_of members line) a answers) (lines_served u t lines rest serves)

  -- ---- what a node begins with stays

  step_start : (v w : NodeView K) → IsStep accepts v w → w.start ≡ v.start
  step_start v w (Puts bytes is) = ap (λ (x : NodeView K). x.start) is
  step_start v w (Restores bytes is) = ap (λ (x : NodeView K). x.start) is
  step_start v w (Makes others time payload made making) = ap (λ (x : NodeView K). x.start) making.grown
  step_start v w (Settles is) = ap (λ (x : NodeView K). x.start) is

  leads_start : (v w : NodeView K) (over : List (NodeView K)) → LeadsOver accepts v over w → w.start ≡ v.start
  leads_start v w [] same = ap (λ (x : NodeView K). x.start) same
  leads_start v w (u ∷ before) (leads, step) = step_start u w step ∙ leads_start v u before leads

  pub served_start : (v w : NodeView K) → IsServed accepts v w → w.start ≡ v.start
  served_start v w (over, leads) = leads_start v w over leads
