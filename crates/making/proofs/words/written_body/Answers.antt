-- `making::words::written_body` meets its contract: each name stands with its code, and the other codes have none.
-- Assumes nothing.
use native.Mathlib.Omega.{arith}
use Rattle.rules.specs.Piece.{name_of}
use Rattle.making.proofs.Spelled.{named, unnamed}
use Rattle.making.proofs.Made.{makes_same}
use Rattle.making.proofs.words.written_body.Goals as goal

pub returns-in-0 : goal.returns-in-0
unfolding name_of
returns-in-0 c = λ t. makes_same (named c.in-0.is) (c.word_body.ensures t)

pub returns-in-7 : goal.returns-in-7
unfolding name_of
returns-in-7 c = λ t. makes_same (named c.in-7.is) (c.word_body-in-7.ensures t)

pub returns-in-8 : goal.returns-in-8
unfolding name_of
returns-in-8 c = λ t. makes_same (named c.in-8.is) (c.word_body-in-8.ensures t)

pub returns-in-9 : goal.returns-in-9
unfolding name_of
returns-in-9 c = λ t. makes_same (named c.in-9.is) (c.word_body-in-9.ensures t)

pub returns-in-10 : goal.returns-in-10
unfolding name_of
returns-in-10 c = λ t. makes_same (named c.in-10.is) (c.word_body-in-10.ensures t)

pub returns-in-13 : goal.returns-in-13
unfolding name_of
returns-in-13 c = λ t. makes_same (named c.in-13.is) (c.word_body-in-13.ensures t)

pub returns-in-27 : goal.returns-in-27
unfolding name_of
returns-in-27 c = λ t. makes_same (named c.in-27.is) (c.word_body-in-27.ensures t)

pub returns-in-32 : goal.returns-in-32
unfolding name_of
returns-in-32 c = λ t. makes_same (named c.in-32.is) (c.word_body-in-32.ensures t)

pub returns-in-127 : goal.returns-in-127
unfolding name_of
returns-in-127 c = λ t. makes_same (named c.in-127.is) (c.word_body-in-127.ensures t)

pub returns-in_default : goal.returns-in_default
returns-in_default c =
    λ t. makes_same (unnamed c.args.code (omega arith) (omega arith) (omega arith) (omega arith) (omega arith) (omega arith) (omega arith) (omega arith) (omega arith))
    (c.unnamed_body.ensures t)
