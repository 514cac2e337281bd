-- `making::words::word_body` meets its contract: a text that its body holds is a body. Assumes nothing.
use Rattle.making.proofs.Made.{made_word}
use Rattle.making.proofs.words.word_body.Goals as goal

pub returns : goal.returns
returns c = λ t. rw c.copy_from_slice.ensures.after (made_word t _ _ c.requires)
