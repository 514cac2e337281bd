-- `count_format` meets its contract: the sequence of the whole text, from the first argument on. Assumes nothing.
use Rattle.vet.proofs.VettablePlaces.{vettable_text}
use Rattle.vet.proofs.counting.count_format.Goals as goal

pub count_sequence-requires-clause-vettable_at : goal.count_sequence-requires-clause-vettable_at
count_sequence-requires-clause-vettable_at c = vettable_text c.args.format.now c.requires.format_value c.requires.format_value_2
