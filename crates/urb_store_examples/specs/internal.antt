pub mod SeenStores
