use Rattle.bench.proofs.Asking.{texts_ask}
use Rattle.bench.proofs.Balance.{book_law}
use Rattle.bench.proofs.Likely.{likeness_law, speed_law}
use Rattle.bench.proofs.Pretended.{not_by_the_book, not-confirmed-once, not_equal_ends}
use Rattle.bench.proofs.Reached.{ruled_out}
use Rattle.bench.proofs.Standing.{entry_law}
use Rattle.bench.proofs.laws.laws_stand.Goals as goal

pub returns : goal.returns
returns c =
    record { book = book_law; entries = entry_law; speeds = speed_law; likeness = likeness_law; readings = ruled_out; texts = texts_ask; strays = not_by_the_book; unconfirmed = not-confirmed-once; unequal = not_equal_ends }
