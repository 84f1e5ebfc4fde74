-- What callers see of a mailbox and a port, from what lies inside
use Rattle.std.proofs.Common.{◌≡◌, ℕ, Option, sym, subst}
use Rattle.atomic_table.specs.declared.shared.Seat.{Seat}
use Rattle.crossbeam_queue.specs.Passes.{Pass, view}
use Rattle.hg_mail.specs.declared.message.Message.{Message}
use Rattle.hg_mail.specs.declared.view.View.{View}
use Rattle.hg_mail.specs.declared.view.CountView.{CountView}
use Rattle.hg_mail.specs.Mailboxes.{IsPortOf, MailboxView, PortView, port_of}

pub as_seen : (m n : MailboxView) (p q : PortView) → m ≡ n → p ≡ q → (P : MailboxView → PortView → Type 0) → P m p → P n q
as_seen m n p q is same P holds = subst (λ x. P x q) is (subst (λ y. P m y) same holds)

pub of_inside : (m n : MailboxView) (p q : PortView) → m ≡ n → p ≡ q → IsPortOf n q → IsPortOf m p
of_inside m n p q is same of = as_seen n m q p (sym is) (sym same) IsPortOf of

-- a port whose view and count have become these
pub port_is : (pass : Pass Message View) (seat : Seat (Option ℕ) CountView) (old : PortView) (v : View) (n : CountView) →
    pass.table_id ≡ old.queue → seat.table_id ≡ old.table → view pass ≡ v → seat.me.0 ≡ n → port_of pass seat ≡ record old { view = v; count = n }
port_is pass seat old v n queue table sees counts i = record { queue = queue i; table = table i; view = sees i; count = counts i }
