use Rattle.std.proofs.Common.{arith, suc}
use Rattle.urb_group.proofs.tails.TailAnswers.{passes-anyway, passes-at-once, passes-later}
use Rattle.urb_group.proofs.tails.TailAnswers.{passes-never}
use Rattle.urb_group.proofs.tail_rules.is_certified_rightly.Goals as goal

pub returns-in-Pend : goal.returns-in-Pend
returns-in-Pend g c =
    passes-anyway c.args.config c.args.nodes.now (suc c.args.at) c.args.before.now
    c.args.entry.now _ _ c.in-Pend.is

pub returns-in-PendCert : goal.returns-in-PendCert
returns-in-PendCert g c =
    passes-at-once c.args.config c.args.nodes.now (suc c.args.at) c.args.before.now
    c.args.entry.now c.in-PendCert.name c.in-PendCert.message _ c.in-PendCert.is
    c.would_pass.ensures

pub bounds-nodes-at : goal.bounds-nodes-at
bounds-nodes-at g c = omega (arith, c.requires.within, c.requires.group.placed.count)

pub returns-in-Some : goal.returns-in-Some
returns-in-Some g c =
    passes-later c.requires.group c.args.at c.index-nodes-at.result c.index-nodes-at.is
    c.requires.within c.args.before.now c.args.entry.now c.in-Cert.name c.in-Some.message.now _ c.in-Cert.is
    (rw c.in-Some.is at c.find_message.ensures) c.would_pass-in-Some.ensures

pub returns-in-None : goal.returns-in-None
returns-in-None g c =
    passes-never c.requires.group c.args.at c.index-nodes-at.result c.index-nodes-at.is
    c.requires.within c.args.before.now c.args.entry.now c.in-Cert.name c.in-Cert.is
    (rw c.in-None.is at c.find_message.ensures)
