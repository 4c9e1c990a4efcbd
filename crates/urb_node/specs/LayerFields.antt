-- What contracts see of the layers of a node.
use Rattle.urb_node.specs.NodeMemories.{Memory}
use Rattle.urb_node.specs.declared.held.Held.{Held}

-- what the layers keep, as one memory
abbrev pub memory_of : {A : Type 0} → Held A → Memory
memory_of h =
    record {
      limits = h.config;
      node = h.node;
      pairs = h.pending.pairs;
      certified = h.acks.certified;
      log = h.fifo.log;
      count = h.stored;
      acks = h.acks.counted;
      heard = h.resend.heard;
      cursor = h.resend.cursor;
    }
