-- Which bytes are text.
use Rattle.std.proofs.Common.{refl}
use Rattle.std.specs.Str.{chars, is_utf8}
use Rattle.urb_word_examples.proofs.worked.command_texts.payloads_as_text.Goals as goal

pub returns-clause-a_letter : goal.returns-clause-a_letter
unfolding chars is_utf8 lib.Utf8.encode
returns-clause-a_letter c = refl

pub returns-clause-bytes_that_are_no_text : goal.returns-clause-bytes_that_are_no_text
unfolding chars is_utf8 lib.Utf8.encode
returns-clause-bytes_that_are_no_text c = refl

pub returns-clause-after_a_word : goal.returns-clause-after_a_word
unfolding chars is_utf8 lib.Utf8.encode
returns-clause-after_a_word c = refl

pub returns-clause-in_a_line : goal.returns-clause-in_a_line
unfolding chars is_utf8 lib.Utf8.encode
returns-clause-in_a_line c = refl

pub returns-clause-a_member : goal.returns-clause-a_member
unfolding chars is_utf8 lib.Utf8.encode
returns-clause-a_member c = refl
