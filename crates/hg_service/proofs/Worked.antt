-- Rows that are computed from the definitions: lines, requests, faults of lines, and texts
use Rattle.std.proofs.Common.{◌≡◌, ℕ, true, false, replicate, List, [], ◌∷◌, codes, Result, Ok, Err, Some, None, refl}
use Rattle.std.specs.Fmt.{digits}
use Rattle.hex.specs.Hex.{encode_with}
use Rattle.hg_life.specs.Members.{MemberList, listed}
use Rattle.hg_life.specs.Pay.{pay_bytes}
use Rattle.hg_life.specs.declared.answers.Fault.TheVariants as event_fault
use Rattle.hg_life.specs.declared.answers.MakeFault.TheVariants as make_fault
use Rattle.hg_life.specs.declared.pay.Effect.TheVariants as effect
use Rattle.hg_script.specs.declared.fault.Why.TheVariants as why
use Rattle.hg_service.specs.Asking.{lines_in, request_of}
use Rattle.hg_service.specs.Binding.{canonical}
use Rattle.hg_service.specs.Text.{answer_text, cut}
use Rattle.hg_service.specs.declared.answer.Answer.TheVariants as answer
use Rattle.hg_service.specs.declared.answer.NotMade.TheVariants as not_made
use Rattle.hg_service.specs.declared.request.LineFault.{LineFault}
use Rattle.hg_service.specs.declared.request.LineFault.TheVariants as fault
use Rattle.hg_service.specs.declared.request.ServiceRequest.{ServiceRequest}
use Rattle.hg_service.specs.declared.request.ServiceRequest.TheVariants as request
use Rattle.hg_service.proofs.OnLiterals.{line_on_literals}

abbrev members : MemberList
members = listed
    (record { name = codes "A"; secret = 1 ∷ []; balance = 100; stake = 1; has_node = true }
    ∷ record { name = codes "B"; secret = 2 ∷ []; balance = 0; stake = 5; has_node = true } ∷ []) 10

abbrev reads : List ℕ → Result ServiceRequest LineFault
reads line = request_of members line

-- ---- lines

hears_nothing : lines_in [] ≡ []
unfolding line_on_literals
hears_nothing = refl

hears_no_cut_line : lines_in (codes "state\nmake 5 pay:B=1") ≡ codes "state" ∷ []
unfolding line_on_literals
hears_no_cut_line = refl

hears_an_empty_line : lines_in (codes "state\n\n") ≡ codes "state" ∷ [] ∷ []
unfolding line_on_literals
hears_an_empty_line = refl

-- ---- requests

reads_state : reads (codes " state\t") ≡ Ok request.State
unfolding line_on_literals
reads_state = refl

reads_proof : reads (codes "proof") ≡ Ok request.Proof
unfolding line_on_literals
reads_proof = refl

reads_make : reads (codes "make 5") ≡ Ok (request.Make 5 [] [])
unfolding line_on_literals
reads_make = refl

reads_pay : reads (codes "make 5 pay:B=3,#7=80")
    ≡ Ok (request.Make 5 (pay_bytes (record { receiver = 1; amount = 3 } ∷ record { receiver = 7; amount = 80 } ∷ [])) [])
unfolding line_on_literals
reads_pay = refl

reads_names : reads (codes "make 5 - 0f0f0f0f0f0f0f0f0f0f0f0f0f0f0f0f0f0f0f0f0f0f0f0f0F0F0F0F0F0F0F0F0F0F0F0F0F0F0F0F0F0F0F0F0F0F0F0F")
    ≡ Ok (request.Make 5 [] (replicate 48 15 ∷ []))
unfolding line_on_literals
reads_names = refl

reads_put : reads (codes "put 00Ff 01") ≡ Ok (request.Put ((0 ∷ 255 ∷ []) ∷ (1 ∷ []) ∷ []))
unfolding line_on_literals
reads_put = refl

reads_restore : reads (codes "restore") ≡ Ok (request.Restore [])
unfolding line_on_literals
reads_restore = refl

reads_beyond : reads (codes "beyond 7 4096") ≡ Ok (request.Beyond 7 4096 [])
unfolding line_on_literals
reads_beyond = refl

reads_order : reads (codes "order 1 20") ≡ Ok (request.Order 1 20)
unfolding line_on_literals
reads_order = refl

reads_events : reads (codes "events 0 1") ≡ Ok (request.Events 0 1)
unfolding line_on_literals
reads_events = refl

-- ---- faults of lines

no_words : reads [] ≡ Err (fault.Script why.Word)
unfolding line_on_literals
no_words = refl

no_comment : reads (codes "# state") ≡ Err (fault.Script why.Word)
unfolding line_on_literals
no_comment = refl

too_many_words : reads (codes "state now") ≡ Err (fault.Script why.Arity)
unfolding line_on_literals
too_many_words = refl

too_few_words : reads (codes "beyond 0") ≡ Err (fault.Script why.Arity)
unfolding line_on_literals
too_few_words = refl

limit_too_great : reads (codes "beyond 0 4097 zz") ≡ Err (fault.Script why.Number)
unfolding line_on_literals
limit_too_great = refl

order_from_none : reads (codes "order 0 20") ≡ Err (fault.Script why.Number)
unfolding line_on_literals
order_from_none = refl

no_time : reads (codes "make pay:B=3") ≡ Err (fault.Script why.Number)
unfolding line_on_literals
no_time = refl

no_such_receiver : reads (codes "make 5 pay:Z=3") ≡ Err (fault.Script why.Member)
unfolding line_on_literals
no_such_receiver = refl

half_a_byte : reads (codes "put 00 0") ≡ Err fault.Digits
unfolding line_on_literals
half_a_byte = refl

short_name : reads (codes "beyond 0 9 00") ≡ Err fault.Name
unfolding line_on_literals
short_name = refl

-- ---- texts

canonical_text : canonical members ≡ codes "coin 10\nA 100 1\nB 0 5\n"
unfolding canonical digits
canonical_text = refl

bad_text : answer_text members (answer.Bad fault.Long) ≡ codes "0 bad long\n"
unfolding answer_text digits encode_with
bad_text = refl

idle_text : answer_text members (answer.NotMade not_made.Idle) ≡ codes "0 refused idle\n"
unfolding answer_text digits encode_with
idle_text = refl

full_text : answer_text members (answer.NotMade (not_made.Fault (make_fault.Full 9))) ≡ codes "0 refused full 9\n"
unfolding answer_text digits encode_with
full_text = refl

put_text : answer_text members (answer.Put 7 2 1 (record { number = 3; fault = event_fault.Impostor } ∷ []))
    ≡ codes "1 put 7 2 1\n3 impostor\n"
unfolding answer_text digits encode_with
put_text = refl

made_text : answer_text members (answer.Made 8 (0 ∷ 255 ∷ [])) ≡ codes "0 made 8 00ff\n"
unfolding answer_text digits encode_with
made_text = refl

beyond_text : answer_text members (answer.Beyond 5 9 ((10 ∷ []) ∷ [])) ≡ codes "1 beyond 5 9\n0a\n"
unfolding answer_text digits encode_with
beyond_text = refl

members_text : answer_text members (answer.Members 1 (0 ∷ 17 ∷ [])) ≡ codes "2 members B 10 0011\nA 100 1\nB 0 5\n"
unfolding answer_text digits encode_with
members_text = refl

state_text : answer_text members (answer.State 9 0 3 1 4 2 (Some (8, 77)) false (0 ∷ 1 ∷ []))
    ≡ codes "0 state events 9 forkers 0 round 3 closed 1 ordered 4 waiting 2 own 8 77 impostor no strange A,B\n"
unfolding answer_text digits encode_with
state_text = refl

bare_state_text : answer_text members (answer.State 0 0 0 0 0 0 None true [])
    ≡ codes "0 state events 0 forkers 0 round 0 closed 0 ordered 0 waiting 0 own - - impostor yes strange -\n"
unfolding answer_text digits encode_with
bare_state_text = refl

balances_text : answer_text members (answer.Balances 4 (70 ∷ 30 ∷ [])) ≡ codes "2 balances 4\nA 70\nB 30\n"
unfolding answer_text digits encode_with
balances_text = refl

order_text : answer_text members (answer.Order 4 4 (record {
  line = record { creator = 1; sequence = 0; received = 2; time = 9; effect = effect.Paid 1 2; name = 10 ∷ [] };
  payload = [];
} ∷ [])) ≡ codes "1 order 4\n4 B 0 round 2 time 9 0a - paid 1 of 2\n"
unfolding answer_text digits encode_with
order_text = refl

proof_text : answer_text members (answer.Proof (1 ∷ 2 ∷ [])) ≡ codes "1 proof 2\n0102\n"
unfolding answer_text cut digits encode_with
proof_text = refl
