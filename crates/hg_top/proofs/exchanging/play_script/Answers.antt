use Rattle.std.proofs.Common.{List, refl, subst, sym}
use Rattle.hg_exchange.specs.Exchanges.{IsAsking, played_node}
use Rattle.hg_script.specs.declared.line.Line.{Line}
use Rattle.hg_top.specs.declared.exchanging.Exchange.{Exchange}
use Rattle.hg_top.specs.declared.status.File.TheVariants as file
use Rattle.hg_top.specs.Commands.{bad_script, exchange_work, lines_for, serve_work, take_work}
use Rattle.hg_top.specs.Course.{course, no_disk}
use Rattle.hg_top.specs.Ends.{Ends}
use Rattle.hg_top.specs.Writing.{WroteOn}
use Rattle.hg_top.proofs.KeepLaws.{idle_none}
use Rattle.hg_top.proofs.WorkLaws.{takes_none, takes_on}
use Rattle.hg_top.proofs.exchanging.play_script.Goals as goal

pub returns-in-Err-clause-ends : goal.returns-in-Err-clause-ends
returns-in-Err-clause-ends g c =
    takes_none g.F.Shelf g.K.Sink c.args.shelf.now c.lines_from.new.shelf c.args.out.now no_disk file.Script bad_script (lines_for c.args.members.now 0) c.args.script.now
    (λ (lines : List Line). exchange_work c.args.exchange c.args.members.now (played_node c.args.members.now lines c.args.own)) c.in-Err.status idle_none c.in-Err.ensures.err

pub returns-in-Ask-clause-ends : goal.returns-in-Ask-clause-ends
returns-in-Ask-clause-ends g c =
    let F = g.F.Shelf in
    let K = g.K.Sink in
    let members = c.args.members.now in
    let own = c.args.own in
    let lines : List Line = c.in-Ok.lines in
    let u = c.lines_from.new.shelf in
    let out = c.args.out.now in
    let written = c.ask_peers.new.out in
    let status = c.ask_peers.result in
    let wrote = subst (λ (ls : List Line). WroteOn K out written (IsAsking (played_node members ls own)) status) c.as_slice-lines.ensures c.ask_peers.ensures in
    let ends = subst (λ (e : Exchange). Ends (exchange_work e members (played_node members lines own)) (course F K u u out written no_disk) status) (sym c.in-Ask.is) (refl, wrote, idle_none) in
    takes_on F K c.args.shelf.now u u out written no_disk file.Script bad_script (lines_for members 0) c.args.script.now
    (λ (ls : List Line). exchange_work c.args.exchange members (played_node members ls own)) lines status c.in-Ok.ensures.ok c.lines_from.ensures.starts ends

pub returns-in-Serve-clause-ends : goal.returns-in-Serve-clause-ends
returns-in-Serve-clause-ends g c =
    let F = g.F.Shelf in
    let K = g.K.Sink in
    let members = c.args.members.now in
    let own = c.args.own in
    let lines : List Line = c.in-Ok.lines in
    let u = c.lines_from.new.shelf in
    let t = c.serve_message.new.shelf in
    let out = c.args.out.now in
    let written = c.serve_message.new.out in
    let status = c.serve_message.result in
    let ended = subst (λ (ls : List Line). Ends (serve_work c.in-Serve.have.now members (played_node members ls own)) (course F K u t out written no_disk) status) c.as_slice-lines.ensures c.serve_message.ensures.ends in
    let ends = subst (λ (e : Exchange). Ends (exchange_work e members (played_node members lines own)) (course F K u t out written no_disk) status) (sym c.in-Serve.is) ended in
    takes_on F K c.args.shelf.now u t out written no_disk file.Script bad_script (lines_for members 0) c.args.script.now
    (λ (ls : List Line). exchange_work c.args.exchange members (played_node members ls own)) lines status c.in-Ok.ensures.ok c.lines_from.ensures.starts ends

pub returns-clause-ends : goal.returns-clause-ends
returns-clause-ends g c =
    let F = g.F.Shelf in
    let K = g.K.Sink in
    let members = c.args.members.now in
    let own = c.args.own in
    let lines : List Line = c.in-Ok.lines in
    let u = c.lines_from.new.shelf in
    let t = c.take_message.new.shelf in
    let out = c.args.out.now in
    let written = c.take_message.new.out in
    let status = c.take_message.result in
    let ended = subst (λ (ls : List Line). Ends (take_work c.in-Take.rows.now members (played_node members ls own)) (course F K u t out written no_disk) status) c.as_slice-lines.ensures c.take_message.ensures.ends in
    let ends = subst (λ (e : Exchange). Ends (exchange_work e members (played_node members lines own)) (course F K u t out written no_disk) status) (sym c.in-Take.is) ended in
    takes_on F K c.args.shelf.now u t out written no_disk file.Script bad_script (lines_for members 0) c.args.script.now
    (λ (ls : List Line). exchange_work c.args.exchange members (played_node members ls own)) lines status c.in-Ok.ensures.ok c.lines_from.ensures.starts ends
