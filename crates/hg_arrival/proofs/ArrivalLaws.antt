-- An event against which no rule of its arrival speaks adds its link; the rules that are left for a signed one
use Rattle.std.proofs.Common.{◌≡◌, ℕ, suc, ◌<◌, ◌≤◌, Bool, true, false, cond, eqb, List, [], ◌∷◌, ◌++◌, Option, Some, None, sym, ap, ◌∙◌, subst, arith}
use Rattle.std.specs.Prelude.{nat_le}
use Rattle.std.specs.Option.{option_or}
use Rattle.std.proofs.lemmas.Bool.Decides.{nat_tests}
use Rattle.hg_model.specs.declared.row.Row.{Row}
use Rattle.hg_model.specs.Links.{Link, links, link_in}
use Rattle.hg_model.specs.Forks.{forking, has_fork}
use Rattle.hg_model.specs.Graph.{IsShaped}
use Rattle.hg_model.specs.Shape.{FitsLink, link_of}
use Rattle.hg_life.specs.Spelling.{HasSpelling, body_of}
use Rattle.hg_model.specs.Stakes.{Stakes, member_count, total}
use Rattle.hg_life.specs.Verdict.{forkers_rule, impostor_rule, member_rule, name_rule, signature_rule}
use Rattle.hg_life.specs.Signing.{Accepts}
use Rattle.hg_model.specs.Fits.{Fits}
use Rattle.hg_life.specs.declared.answers.Fault.TheVariants as fault
use Rattle.hg_life.specs.declared.answers.PutAnswer.{PutAnswer}
use Rattle.hg_life.specs.declared.answers.PutAnswer.TheVariants.{Refused}
use Rattle.hg_model.specs.Prefix.{Graph}
use Rattle.hg_life.proofs.RuleLaws.{arrives}
use Rattle.hg_model.proofs.StakeLaws.{stake_where-total}
use Rattle.hg_graph.proofs.NextLaws.{adds_link}
use Rattle.hg_arrival.specs.Arrival.{LinkComes, all_rules, arrival_places, impostor_by, parents_rule, signed_rules}

-- the forking members have no more stake than all
pub forking-total : (n : Stakes) (L : List Link) → forking n L ≤ total n
unfolding forking
forking-total n L = stake_where-total n (has_fork L)

pub ruleset forking_low = (forking-total)

member_silent : (g : Graph) (row : Row) → row.creator < member_count g.members → member_rule g.members row ≡ None
member_silent g row member =
    let inside : nat_le (member_count g.members) row.creator ≡ false = grind (arith, nat_tests) in
    ap (λ (b : Bool). cond b (Some (Refused (fault.Member row.creator))) None) inside

-- an event of a member that is new fits where no rule speaks against its parents
fits_by : (g : Graph) (row : Row) → HasSpelling row → row.creator < member_count g.members → None ≡ name_rule g.rows row → None ≡ parents_rule g.rows row → Fits g.members g.rows row
fits_by g row has member fresh silent =
    let all : Accepts = λ m body sig. true in
    let own : ℕ = suc row.creator in
    let by_another : eqb row.creator own ≡ false = grind (arith, nat_tests) in
    let no_impostor : impostor_rule own row ≡ None = ap (λ (b : Bool). cond b (Some (Refused fault.Impostor)) None) by_another in
    let silent_here =
    ap (λ (o : Option PutAnswer). option_or o (option_or (name_rule g.rows row) (option_or (impostor_rule own row) (parents_rule g.rows row)))) (member_silent g row member)
    ∙ (ap (λ (o : Option PutAnswer). option_or o (option_or (impostor_rule own row) (parents_rule g.rows row))) (sym fresh)
    ∙ (ap (λ (o : Option PutAnswer). option_or o (parents_rule g.rows row)) no_impostor ∙ sym silent)) in
    (arrives all g.members own g.rows row has silent_here).fits

pub link_comes : (g : Graph) (row : Row) (parents : List ℕ) → IsShaped g.members (links g.rows) → HasSpelling row → row.creator < member_count g.members → None ≡ name_rule g.rows row → None ≡ parents_rule g.rows row →
    parents ≡ arrival_places g.rows row → LinkComes g row parents
link_comes g row parents shaped has member fresh silent places =
    let n : Stakes = g.members in
    let G : List Row = g.rows in
    let adds = adds_link n G row shaped (fits_by g row has member fresh silent) in
    let link : link_in G row ≡ link_of row.creator parents = ap (λ (ps : List ℕ). record { creator = row.creator; parents = ps }) (sym places) in
    record {
      link = link;
      fits = subst (FitsLink n (links G)) link adds.fits;
      forking = ap (λ (l : Link). forking n (links G ++ l ∷ [])) (sym link) ∙ ap (forking n) (sym adds.added);
    }

-- where the event is a member's and signed, the rules that ask for that are silent
pub signed_answer : (accepts : Accepts) (own : Option ℕ) (g : Graph) (row : Row) → row.creator < member_count g.members → accepts row.creator (body_of row) row.sig ≡ true →
    signed_rules own g row ≡ all_rules accepts own g row
signed_answer accepts own g row member signed =
    let forks = forkers_rule g.members g.rows row in
    let behind = option_or (impostor_by own row) (parents_rule g.rows row) in
    let no_forgery : signature_rule accepts row ≡ None = ap (λ (b : Bool). cond b None (Some (Refused fault.Signature))) signed in
    sym (
    ap (λ (o : Option PutAnswer). option_or (option_or o (option_or (name_rule g.rows row) (option_or (signature_rule accepts row) behind))) forks) (member_silent g row member)
    ∙ ap (λ (o : Option PutAnswer). option_or (option_or (name_rule g.rows row) (option_or o behind)) forks) no_forgery)
