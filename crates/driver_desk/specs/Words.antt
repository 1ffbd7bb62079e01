-- How a request is written: CLASS:NUMBER@CYCLE, and t or u for timed or untimed.
use Rattle.std.specs.Prelude.{ℕ, cond, List, ◌++◌, codes, decimal}
use Rattle.driver_desk.specs.Numbers.{class_number}
use Rattle.driver_desk.specs.declared.request.Request.{Request}

abbrev pub request_words : Request → List ℕ
request_words r =
    decimal (class_number r.class) ++ (codes ":" ++ (decimal r.number ++ (codes "@" ++ (decimal r.raised ++ cond r.timed (codes "t") (codes "u")))))
