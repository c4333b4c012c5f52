-- What the frame of a text says.
use Rattle.std.specs.Prelude.{ℕ, List}
use Rattle.frame.specs.Numbers.{little_endian}
use Rattle.cases.specs.declared.texts.Head.{Head}

-- Format and mode of a byte each, room and length of four.
abbrev pub head_of : List ℕ → Head
head_of frame = record {
  format = little_endian 1 frame 0;
  mode = little_endian 1 frame 1;
  room = little_endian 4 frame 2;
  length = little_endian 4 frame 6;
}
