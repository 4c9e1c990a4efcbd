pub mod ExampleStores
