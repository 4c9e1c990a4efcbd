use Rattle.std.proofs.Common.{◌≡◌, ◌≤◌, vec_len, vec_capacity}
use Rattle.urb_names.specs.Nodes.{nodes}
use Rattle.urb_link.proofs.node_queue.open_channels.Given as goal

abbrev pub invariant-loop-place : goal.invariant-loop-place
invariant-loop-place g l = record {
  count : vec_len l.queues ≡ l.place;
  counted : vec_len l.jobs ≡ l.place;
  queues : l.queues.items ≡ nodes l.place;
  jobs : l.jobs.items ≡ nodes l.place;
  ends : l.count ≤ vec_capacity l.queues;
  others : l.count ≤ vec_capacity l.jobs;
}
