-- The head of a node's journal.
use Rattle.std.proofs.Common.{◌≡◌, ℕ, List, ◌++◌, length, codes, sym, ◌∙◌, ap}
use Rattle.std.specs.Int.{to_be_bytes, w16}
use Rattle.hg_life.specs.Members.{MemberList}
use Rattle.hg_life.specs.NodeView.{start_of}
use Rattle.hg_life.proofs.MemberLaws.{length-stakes}
use Rattle.hg_journal.specs.Journal.{head_of}

pub head_is : {K : Type 0} (members : MemberList) (own : ℕ) (keys : K) (head : List ℕ) (count : ℕ) → head ≡ codes "HGJ1" ++ (to_be_bytes w16 count ++ to_be_bytes w16 own)
    → count ≡ length members.entries → head ≡ head_of (start_of members own keys)
head_is members own keys head count spelled counts = spelled ∙ ap (λ (n : ℕ). codes "HGJ1" ++ (to_be_bytes w16 n ++ to_be_bytes w16 own)) (counts ∙ sym (length-stakes members))
