-- The command line of the program. Proved here: what the parser reads is what the words spell.
-- Read BuiltCommands and ParserPromise first: the commands that the program builds are the declared
-- ones, and the parser says their faults (`urbd_app-free`). NumbersRead says which number an option
-- has (`number_found`). They use the kit's lemmas on texts and numbers.
mod Common
mod ParserPromise
mod NumbersRead
mod BuiltCommands
