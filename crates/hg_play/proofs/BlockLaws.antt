-- The block of a node, part by part, and that of a node that is settled
use Rattle.std.proofs.Common.{◌≡◌, ℕ, List, length, ap, ap₂, refl, ◌∙◌}
use Rattle.hg_model.specs.declared.row.Row.{Row}
use Rattle.hg_model.specs.declared.row.Placed.{Placed}
use Rattle.hg_outcome.specs.declared.outcome.OrderLine.{OrderLine}
use Rattle.hg_outcome.specs.declared.outcome.Block.{Block}
use Rattle.hg_model.specs.Links.{Link, links}
use Rattle.hg_model.specs.Fame.{Marks, fame_marks}
use Rattle.hg_model.specs.Order.{coin_at, last_closed, ordered}
use Rattle.hg_life.specs.Members.{MemberList, balances_of, stakes_of}
use Rattle.hg_model.specs.Forks.{forkers}
use Rattle.hg_model.specs.Rounds.{last_round}
use Rattle.hg_life.specs.Pay.{Book, book_of}
use Rattle.hg_outcome.specs.Ledger.{block_of, marked_block, order_lines}
use Rattle.hg_life.specs.NodeView.{NodeView, Start, node_rows, node_links, node_marks, kept_of, book_kept, last_closed_of, IsNode, terms_of}
use Rattle.hg_life.specs.Calls.{IsSettled}
use Rattle.hg_life.specs.Signing.{Accepts}
use Rattle.hg_history.proofs.SoundLaws.{sound}
use Rattle.hg_world.specs.World.{Secrets}
use Rattle.hg_play.specs.Lines.{kept_block}
use Rattle.hg_play.specs.Sites.{IsMadeWith, start_in}

-- the block of a node by its marks, part by part
pub block_is : {K : Type 0} (accepts : K → Accepts) (members : MemberList) (v : NodeView K) (x : ℕ) (lines : List OrderLine) (events forking greatest closed : ℕ) (balances : List ℕ) →
    IsMadeWith members v → IsNode accepts v → x ≡ v.start.own → lines ≡ order_lines (node_rows v) (links (node_rows v)) (kept_of v) (book_kept v).effects →
    events ≡ length (node_rows v) → forking ≡ forkers v.start.members (links (node_rows v)) → greatest ≡ last_round v.start.members (links (node_rows v)) → closed ≡ last_closed_of v → balances ≡ (book_kept v).balances →
    (let block : Block = record { member = x; events = events; forkers = forking; greatest = greatest; closed = closed; order = lines; balances = balances } in block) ≡ kept_block members v.start.own v
unfolding marked_block
block_is {K} accepts members v x lines events forking greatest closed balances start node own_is lines_are events_are forking_is greatest_is closed_is balances_are =
    let n = stakes_of members in
    let G = node_rows v in
    let marks = node_marks v in
    let linked : node_links v ≡ links G = (sound (terms_of accepts v.start) v.start.members v.start.coin v.start.own v.history node.coin node.history).linked in
    let order : kept_of v ≡ ordered n G (links G) marks = ap₂ (λ (s : Start K) (L : List Link). ordered s.members G L marks) start linked in
    let the_book : book_kept v ≡ book_of (balances_of members) G (ordered n G (links G) marks) =
    ap (λ (s : Start K). book_of s.balances G (kept_of v)) start ∙ ap (book_of (balances_of members) G) order in
    let all_lines : lines ≡ order_lines G (links G) (ordered n G (links G) marks) (book_of (balances_of members) G (ordered n G (links G) marks)).effects =
    lines_are ∙ ap₂ (λ (os : List Placed) (c : Book). order_lines G (links G) os c.effects) order the_book in
    let all_forking : forking ≡ forkers n (links G) = forking_is ∙ ap (λ (s : Start K). forkers s.members (links G)) start in
    let the_greatest : greatest ≡ last_round n (links G) = greatest_is ∙ ap (λ (s : Start K). last_round s.members (links G)) start in
    let all_closed : closed ≡ last_closed n (links G) marks = closed_is ∙ ap₂ (λ (s : Start K) (L : List Link). last_closed s.members L marks) start linked in
    let all_balances : balances ≡ (book_of (balances_of members) G (ordered n G (links G) marks)).balances = balances_are ∙ ap (λ (c : Book). c.balances) the_book in
    rw (own_is, events_are, all_forking, the_greatest, all_closed, all_lines, all_balances) refl

-- the marks of a settled node are the fame of its graph
pub settled_is : (members : MemberList) (x : ℕ) (old new : NodeView Secrets) → old.start ≡ start_in members x → IsSettled old new →
    kept_block members x new ≡ block_of members x (node_rows old)
settled_is members x old new start is =
    ap₂ (λ (G : List Row) (f : Marks). marked_block members x G f) is.rows
    (is.marks ∙ ap (λ (s : Start Secrets). fame_marks s.members s.coin (links (node_rows old)) (coin_at (node_rows old))) start)
