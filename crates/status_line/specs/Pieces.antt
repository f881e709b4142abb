-- What each placeholder of the manual is written as.
use Rattle.std.specs.Prelude.{ℕ, zero, suc, ◌+◌, ◌-◌, ◌*◌, ◌/◌, ◌%◌, List, [], ◌∷◌, ◌++◌, eqb, ltb, Option, Some, None, Float}
use Rattle.lists.specs.Tests.{if_b}
use Rattle.status_rates.specs.Rates.{tenths_of}
use Rattle.status_record.specs.declared.Status.{Status}
use Rattle.status_line.specs.declared.StatusPiece.{StatusPiece}
use Rattle.status_line.specs.declared.StatusPiece.TheVariants.{Number, Tenths, Seconds, Byte}

-- "`%p` is 100 times started over total, cut downwards, without a sign, 100 for a total of 0"
unfoldable pub percent_of : ℕ → ℕ → ℕ
percent_of started total = if_b (eqb total 0) (λ _. 100) (λ _. started * 100 / total)

-- "unknown, printed `?`"; else "in tenths"
unfoldable pub rate_piece : Option Float → StatusPiece
unfolding tenths_of
rate_piece None = Byte 63
rate_piece (Some r) = Tenths (tenths_of r)

-- "the manual's status placeholders `%s %t %p %r %u %f %o %c %e %%`": started, total, percent started, running, not started, finished, the overall and the current rate, the elapsed
-- seconds, and a `%`
unfoldable pub piece_of : Status → ℕ → StatusPiece
unfolding percent_of rate_piece
piece_of s k =
    if_b (eqb k 115) (λ _. Number s.started)
    (λ _. if_b (eqb k 116) (λ _. Number s.total)
    (λ _. if_b (eqb k 112) (λ _. Number (percent_of s.started s.total))
    (λ _. if_b (eqb k 114) (λ _. Number s.running)
    (λ _. if_b (eqb k 117) (λ _. Number (s.total - s.started))
    (λ _. if_b (eqb k 102) (λ _. Number s.finished)
    (λ _. if_b (eqb k 111) (λ _. rate_piece s.overall)
    (λ _. if_b (eqb k 99) (λ _. rate_piece s.current)
    (λ _. if_b (eqb k 101) (λ _. Seconds s.last)
    (λ _. Byte 37)))))))))

-- the lowest digit
unfoldable pub digit_of : ℕ → ℕ
digit_of n = n % 10 + 48

-- A number in decimal digits, the highest first and with no leading zero. The first argument bounds the digits: n itself is more than n has.
unfoldable pub decimal_within : ℕ → ℕ → List ℕ
unfolding digit_of
decimal_within zero n = []
decimal_within (suc f) n = if_b (ltb n 10) (λ _. digit_of n ∷ []) (λ _. decimal_within f (n / 10) ++ (digit_of n ∷ []))

unfoldable pub decimal_of : ℕ → List ℕ
unfolding decimal_within
decimal_of n = decimal_within (suc n) n

-- "printed in tenths"
unfoldable pub tenths_text : ℕ → List ℕ
unfolding decimal_of
tenths_text n = decimal_of (n / 10) ++ (46 ∷ digit_of n ∷ [])

-- "`%e` is seconds with three decimals, exactly the milliseconds"
unfoldable pub seconds_text : ℕ → List ℕ
unfolding decimal_of
seconds_text n = decimal_of (n / 1000) ++ (46 ∷ digit_of (n / 100) ∷ digit_of (n / 10) ∷ digit_of n ∷ [])

unfoldable pub piece_text : StatusPiece → List ℕ
unfolding decimal_of tenths_text seconds_text
piece_text (Number n) = decimal_of n
piece_text (Tenths n) = tenths_text n
piece_text (Seconds n) = seconds_text n
piece_text (Byte b) = b ∷ []
