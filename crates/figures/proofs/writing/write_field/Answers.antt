-- `writing::write_field` meets its contract. Assumes nothing.
use Rattle.figures.proofs.Written.{wrote_next}
use Rattle.figures.proofs.writing.write_field.Goals as goal

pub returns : goal.returns
returns g c = wrote_next c.write_byte-next.ensures c.write.ensures c.requires
