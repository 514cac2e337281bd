-- `pieces::resuming::write_padding` meets its contract: nothing is left where all of the padding had room.
-- Assumes nothing.
use Rattle.pieces.proofs.Rests.{padding_left}
use Rattle.pieces.proofs.resuming.write_padding.Goals as goal

pub returns-then-behind-eq0 : goal.returns-then-behind-eq0
returns-then-behind-eq0 c =
    λ t k. padding_left t c.args.q c.requires.lt_stage k c.pad_some-behind.ensures _
    (λ z. c.into-stage.ensures) (λ n. absurd (n c.if-behind-eq0.true))

pub returns-else-behind-eq0 : goal.returns-else-behind-eq0
returns-else-behind-eq0 c =
    λ t k. padding_left t c.args.q c.requires.lt_stage k c.pad_some-behind.ensures _
    (λ z. absurd (c.if-behind-eq0.false z)) (λ n. c.requires.lt_stage)
