-- The claims of specs/Claims. Assumes nothing.
use mathlib.Core.Path.{refl}
use native.Mathlib.Omega.{arith}
use borrow.Author.Tests.{eq-eqb, ne_eqb}
use lib.Dec.{eqb}
use Rattle.lists.proofs.Scanning.{or_second}
use Rattle.rate_claims.specs.Claims.{NetworkClaims, DrainClaims}
use Rattle.state_derivatives.proofs.Tables.{rates_are}

pub network_claims : NetworkClaims
network_claims = record { rates = λ g d y n m. rates_are g n m d y }

pub drain_claims : DrainClaims
drain_claims =
    record {
      first_end = λ d y s. rw (eq-eqb d.from d.from refl);
      second_end = λ d y s. rw (or_second (eqb d.from d.to) (eqb d.to d.to) (eq-eqb d.to d.to refl));
      elsewhere = λ d y i s f t. rw (ne_eqb d.from i f, ne_eqb d.to i t);
      without = λ y i s l. rw (ne_eqb 32 i (λ e. omega arith));
    }
