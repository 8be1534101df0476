-- Document 02, S-4, for a host in C: fields kept in a store under names, of 32 bits here, so that a place is a name.
use Rattle.std.specs.Prelude.{ℕ, ◌≡◌, List}
use Rattle.store.specs.Calls.{keep_verdict, keep_store, drop_verdict, drop_store, return_verdict, return_masses}
use Rattle.host_answer.specs.Number.{number_of}

pub record KeepFromC (cells : ℕ) (volumes masses store : List ℕ) (name r : ℕ) (store' : List ℕ) : Type 0 where
  pub number : r ≡ number_of (keep_verdict cells volumes masses store name)
  pub store_is : store' ≡ keep_store cells volumes masses store name

pub record DropFromC (cells : ℕ) (store : List ℕ) (name r : ℕ) (store' : List ℕ) : Type 0 where
  pub number : r ≡ number_of (drop_verdict cells store name)
  pub store_is : store' ≡ drop_store cells store name

pub record ReturnFromC (cells : ℕ) (volumes masses store : List ℕ) (name r : ℕ) (masses' : List ℕ) : Type 0 where
  pub number : r ≡ number_of (return_verdict cells volumes masses store name)
  pub masses_are : masses' ≡ return_masses cells volumes masses store name
