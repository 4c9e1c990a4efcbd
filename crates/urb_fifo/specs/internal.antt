pub mod LogInvariant
