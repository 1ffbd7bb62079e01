-- The order of requests sorts them.
use Rattle.std.specs.Prelude.{◌≡◌, true, false}
use Rattle.std.proofs.Common.{arith}
use Rattle.std.proofs.lemmas.Bool.Decides.{nat_tests}
use Rattle.driver_desk.specs.Requests.{before}
use Rattle.driver_desk.specs.declared.request.Request.{Request}
use Rattle.cab_unit.proofs.Sorted.{Order}

-- not both ways
one_way : (a b : Request) → before a b ≡ true → before b a ≡ false
one_way a b e = grind (arith, nat_tests)

-- not before is carried on
follows : (a b c : Request) → before a b ≡ false → before b c ≡ false → before a c ≡ false
follows a b c e f = grind (arith, nat_tests)

-- `before` orders requests
pub before-order : Order before
before-order = record { one_way = one_way; follows = follows }
