-- The first of what is left of texts
use Rattle.std.proofs.Common.{◌≡◌, ◌∙◌, ◌+◌, ◌<◌, ◌++◌, ℕ, List, length, drop, get_or, sym, ap}
use Rattle.hg_outcome.specs.Report.{printed_text, printed_texts}
use Rattle.hg_outcome.specs.declared.outcome.NodeSummary.{NodeSummary}
use Rattle.hg_outcome.specs.declared.outcome.Printed.{Printed}
use Rattle.hg_report.specs.Heads.{piece_head, pieces_heads}
use Rattle.hg_report.specs.Summary.{node_text, nodes_text}
use Rattle.hg_pieces.proofs.Steps.{first_left}

pub texts_left : (names : List (List ℕ)) (texts : List Printed) (i : ℕ) (printed : Printed) → printed ≡ get_or texts i printed → i < length texts
    → printed_texts names (drop i texts) ≡ printed_text names printed ++ printed_texts names (drop (i + 1) texts)
texts_left names texts i printed is lt =
    ap (printed_texts names) (first_left texts i printed lt)
    ∙ ap (λ p. printed_text names p ++ printed_texts names (drop (i + 1) texts)) (sym is)

pub nodes_left : (names : List (List ℕ)) (nodes : List NodeSummary) (i : ℕ) (d : NodeSummary) → i < length nodes
    → nodes_text names (drop i nodes) ≡ node_text names (get_or nodes i d) ++ nodes_text names (drop (i + 1) nodes)
nodes_left names nodes i d lt = ap (nodes_text names) (first_left nodes i d lt)

pub heads_left : (names : List (List ℕ)) (pieces : List Printed) (i : ℕ) (piece : Printed) → piece ≡ get_or pieces i piece → i < length pieces
    → pieces_heads names (drop i pieces) ≡ piece_head names piece ++ pieces_heads names (drop (i + 1) pieces)
heads_left names pieces i piece is lt =
    ap (pieces_heads names) (first_left pieces i piece lt)
    ∙ ap (λ p. piece_head names p ++ pieces_heads names (drop (i + 1) pieces)) (sym is)
