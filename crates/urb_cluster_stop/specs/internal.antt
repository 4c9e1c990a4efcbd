pub mod ReopenedStores
