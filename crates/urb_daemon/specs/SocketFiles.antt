-- The paths of a group's Unix sockets.
use Rattle.std.specs.Prelude.{◌++◌, ℕ, codes}
use Rattle.std.specs.Fmt.{decimal}
use Rattle.clap.specs.Words.{Text}

-- the path of a node's socket: node-P.sock in the folder
abbrev pub socket_path : Text → ℕ → Text
socket_path dir node = dir ++ (codes "/node-" ++ (decimal node ++ codes ".sock"))
