-- `writer_cases::written_line` meets its contract: its pieces in order. Assumes nothing.
use Rattle.pages.proofs.Pages.{laid_then}
use Rattle.writer_cases.proofs.written_line.Goals as goal

pub returns : goal.returns
returns c = laid_then (laid_then (laid_then (laid_then c.word.ensures c.number.ensures) c.byte.ensures) c.hex_word.ensures) c.byte-2.ensures
